-- Rotations of the matrix do not depend on the vectors: the eigenvalues alone are those that stand beside them. Assumes nothing.
use mathlib.Core.Path.{◌≡◌, refl, ◌∙◌, ap}
use mathlib.Core.Bool.{Bool, true, false}
use mathlib.Core.List.{List, []}
use Prim.Native.Nat.{ℕ, zero, suc}
use lib.Ieee.{Float, le}
use Rattle.numbers.specs.Number.{◌*ᶠ◌}
use Rattle.complex.specs.declared.Complex.{Complex}
use Rattle.magnitudes.specs.Pivot.{pivot_of, scale_of}
use Rattle.turns.specs.Rotation.{turn_of, turned, columns_turned}
use Rattle.eigen.specs.Jacobi.{Turns, Values, done, jacobi, unit, ascending, eig_of, values_of}
use Rattle.eigen.specs.Steps.{jacobi_with}

-- the eigenvalues after a run
abbrev pub after : ℕ → Turns → Values
after n t = values_of (ascending n t)

-- with all rows of vectors a run is the definition's
pub with-all : (k n : ℕ) (limit : Float) (a v : List Complex) → jacobi_with k n n limit a v ≡ jacobi k n limit a v
unfolding jacobi jacobi_with
with-all zero n limit a v = refl
with-all (suc k) n limit a v =
    let t = turn_of n a (pivot_of n a) in
    ap (λ (r : Turns). elim (le (pivot_of n a).best limit) [ true ↦ done a v | false ↦ r ]) (with-all k n limit (turned n t a) (columns_turned n n t v))

-- what follows a rotation
abbrev next : ℕ → ℕ → ℕ → Float → List Complex → List Complex → Turns
next k r n limit a v = let t = turn_of n a (pivot_of n a) in jacobi_with k r n limit (turned n t a) (columns_turned r n t v)

no-vectors : (k r s n : ℕ) (limit : Float) (a v u : List Complex) → after n (jacobi_with k r n limit a v) ≡ after n (jacobi_with k s n limit a u)
unfolding jacobi_with ascending values_of
no-vectors zero r s n limit a v u = refl
no-vectors (suc k) r s n limit a v u =
    let t = turn_of n a (pivot_of n a) in
    go (le (pivot_of n a).best limit) (no-vectors k r s n limit (turned n t a) (columns_turned r n t v) (columns_turned s n t u))
  where
    go : (b : Bool) → after n (next k r n limit a v) ≡ after n (next k s n limit a u) → after n (elim b [ true ↦ done a v | false ↦ next k r n limit a v ]) ≡ after n (elim b [ true ↦ done a u | false ↦ next k s n limit a u ])
    go true e = refl
    go false e = e

pub alone : (n : ℕ) (tolerance : Float) (k : ℕ) (a : List Complex) → after n (jacobi_with k 0 n (tolerance *ᶠ scale_of n a) a []) ≡ values_of (eig_of n tolerance k a)
unfolding eig_of
alone n tolerance k a =
    let limit = tolerance *ᶠ scale_of n a in
    no-vectors k 0 n n limit a [] (unit n) ∙ ap (after n) (with-all k n limit a (unit n))
