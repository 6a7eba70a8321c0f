-- What the code does: a rotation of the matrix, of rows of vectors, and of the magnitudes that are kept; and a run of them. No definition of a result uses it.
use Rattle.std.specs.Prelude.{◌≡◌, true, false, List, ℕ, zero, suc, Float}
use Rattle.std.specs.Float.Ieee.{le}
use Rattle.complex.specs.declared.Complex.{Complex}
use Rattle.magnitudes.specs.declared.Pivot.{Pivot}
use Rattle.magnitudes.specs.Kept.{renewed}
use Rattle.magnitudes.specs.Pivot.{pivot_of}
use Rattle.turns.specs.Rotation.{turn_of, turned, columns_turned}
use Rattle.eigen.specs.Jacobi.{Turns, done, used_up}

-- matrix a, vectors v and magnitudes s become b, u and x
pub record Stepped (r n : ℕ) (g : Pivot) (a v : List Complex) (s : List Float) (b u : List Complex) (x : List Float) : Type 0 where
  pub matrix : b ≡ turned n (turn_of n a g) a
  pub vectors : u ≡ columns_turned r n (turn_of n a g) v
  pub kept : x ≡ renewed n b g.p g.q s

-- k rotations at most, with r rows of vectors: all of them, or none where eigenvalues alone are asked for (proofs/Alone.antt)
unfoldable pub jacobi_with : ℕ → ℕ → ℕ → Float → List Complex → List Complex → Turns
jacobi_with zero r n limit a v = used_up
jacobi_with (suc k) r n limit a v =
    let t = turn_of n a (pivot_of n a) in
    elim (le (pivot_of n a).best limit) [ true ↦ done a v | false ↦ jacobi_with k r n limit (turned n t a) (columns_turned r n t v) ]
