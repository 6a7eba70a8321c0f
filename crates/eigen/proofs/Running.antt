-- A run, rotation by rotation. Assumes nothing.
use mathlib.Core.Path.{◌≡◌, refl, sym, ◌∙◌, ap, ap₂, subst}
use mathlib.Core.Bool.{Bool, true, false}
use mathlib.Core.List.{List, [], ◌∷◌}
use Prim.Native.Nat.{ℕ, zero, suc, ◌+◌, ◌-◌, ◌<◌, ◌≤◌}
use native.Mathlib.Omega.{arith}
use lib.ListN.{length, get_or}
use Rattle.lists.specs.Build.{build}
use Rattle.lists.proofs.Filling.{Filled, fill-all}
use Rattle.sorting.specs.Sort.{order_of, sorted}
use Rattle.sorting.proofs.Ordered.{order_below}
use lib.Ieee.{Float, le}
use Rattle.numbers.specs.Number.{◌*ᶠ◌}
use Rattle.complex.specs.declared.Complex.{Complex}
use Rattle.magnitudes.specs.declared.Pivot.{Pivot}
use Rattle.magnitudes.specs.Pivot.{pivot_of, scale_of}
use Rattle.magnitudes.specs.Kept.{Kept, filled}
use Rattle.magnitudes.proofs.Keeping.{Long, long-filled, long-renewed, kept-first, kept-turn, pivot-within}
use Rattle.turns.specs.declared.Turn.{Turn}
use Rattle.turns.specs.Rotation.{turn_of, turned, columns_turned}
use Rattle.turns.proofs.Whole.{same-outside, even_p, even_q}
use Rattle.entries.specs.Entries.{entries}
use Rattle.eigen.specs.Jacobi.{Turns, done, used_up, ran, jacobi, unit, diagonal, columns_in, spectrum, ascending, eig_of, told, values, values_of, told_values}
use Rattle.eigen.specs.Steps.{Stepped, jacobi_with}
use Rattle.eigen.proofs.Alone.{after, alone, with-all}

module _ (r n : ℕ) (limit : Float) (a v : List Complex) where
  pub run_none : (k : ℕ) → k ≤ 0 → used_up ≡ jacobi_with k r n limit a v
  unfolding jacobi_with
  run_none zero h = refl
  run_none (suc k) h = absurd (omega arith)

  pub run-done : (k : ℕ) (g : Pivot) → 0 < k → g ≡ pivot_of n a → le g.best limit ≡ true → done a v ≡ jacobi_with k r n limit a v
  unfolding jacobi_with
  run-done zero g h e l = absurd (omega arith)
  run-done (suc k) g h e l =
      subst
      (λ (b : Bool). done a v ≡ (elim b [ true ↦ done a v | false ↦ jacobi_with k r n limit (turned n (turn_of n a (pivot_of n a)) a) (columns_turned r n (turn_of n a (pivot_of n a)) v) ]))
      (sym (rw e at l)) refl

  pub run_more : (k : ℕ) (g : Pivot) (s x : List Float) (b u : List Complex) → 0 < k → g ≡ pivot_of n a → le g.best limit ≡ false → Stepped r n g a v s b u x → jacobi_with (k - 1) r n limit b u ≡ jacobi_with k r n limit a v
  unfolding jacobi_with
  run_more zero g s x b u h e l d = absurd (omega arith)
  run_more (suc k) g s x b u h e l d =
      let q : suc k - 1 ≡ k = omega arith in
      let next = jacobi_with k r n limit (turned n (turn_of n a (pivot_of n a)) a) (columns_turned r n (turn_of n a (pivot_of n a)) v) in
      rw (q, d.matrix, d.vectors, e) (subst (λ (b : Bool). next ≡ (elim b [ true ↦ done a v | false ↦ next ])) (sym (rw e at l)) refl)

-- what is kept is right
abbrev pub Right : ℕ → List Complex → List Float → Type 0
Right n a s = Long s × Kept n a s

pub right-first : (n : ℕ) (a : List Complex) (s : List Float) → n ≤ 16 → s ≡ filled n a → Right n a s
right-first n a s h e = subst (Right n a) (sym e) (long-filled n a h, kept-first n a h)

-- a rotation keeps it right
pub right-step : (r n : ℕ) (g : Pivot) (a v : List Complex) (s x : List Float) (b u : List Complex) → n ≤ 16 → g.p < n → g.q < n → Right n a s → Stepped r n g a v s b u x → Right n b x
unfolding turn_of
right-step r n g a v s x b u h p q (l, k) d =
    let t = turn_of n a g in
    let c = turned n t a in
    rw (d.kept, d.matrix) (long-renewed n c g.p g.q h p q s l, kept-turn n a c g.p g.q s h p q l k (same-outside n t a) (even_p n t a p) (even_q n t a p q))

-- a rotation is at its pivot's place
pub turn-place : (n : ℕ) (a : List Complex) (g : Pivot) (t : Turn) → t ≡ turn_of n a g → g.p < n → g.q < n → (t.p < n) × (t.q < n)
unfolding turn_of
turn-place n a g t e p q = rw e (p, q)

-- the pivot lies within the matrix
pub place-within : (n : ℕ) (a : List Complex) (g : Pivot) → 0 < n → g ≡ pivot_of n a → (g.p < n) × (g.q < n)
place-within n a g h e = rw e (pivot-within n a h)

-- a rotation at the pivot: what is kept is right again, and the run goes on to the same end t
pub pivot-turned : (r n : ℕ) (limit : Float) (k i : ℕ) (a v : List Complex) (s x : List Float) (g : Pivot) (d u : List Complex) (t : Turns) → 0 < n → n ≤ 16 → Right n a s → g ≡ pivot_of n a → i < k
    → le g.best limit ≡ false → Stepped r n g a v s d u x → jacobi_with (k - i) r n limit a v ≡ t → Right n d x × (jacobi_with (k - (i + 1)) r n limit d u ≡ t)
pivot-turned r n limit k i a v s x g d u t h m right e j f p q =
    let b = place-within n a g h e in
    let w : k - (i + 1) ≡ k - i - 1 = omega arith in
    (right-step r n g a v s x d u m b.0 b.1 right p, rw w (run_more r n limit a v (k - i) g s x d u (omega arith) e f p ∙ q))

-- the limit of a run is by the scale of its matrix
pub by-scale : (k r n : ℕ) (tolerance s : Float) (a v : List Complex) (x : Turns) → s ≡ scale_of n a → x ≡ jacobi_with k r n (tolerance *ᶠ s) a v → x ≡ jacobi_with k r n (tolerance *ᶠ scale_of n a) a v
by-scale k r n tolerance s a v x e h = rw e at h

-- a slice that a loop filled
pub filled-all : (f : ℕ → Float) (d : List Float) (i m : ℕ) (out : List Float) → i ≡ length d → length d ≡ m → Filled f d i out → out ≡ build m f
filled-all f d i m out h e p = fill-all f d i out h p ∙ ap (λ (m : ℕ). build m f) e

-- ---- sorted values

pub order-under : (d : List Float) (n : ℕ) (l : List ℕ) → l ≡ order_of d n → (k : ℕ) → k < n → get_or l k 0 < n
order-under d n l e k u = rw e (order_below false d n k u)

-- the numbers of the diagonal, arranged
pub ascends : (n : ℕ) (a : List Complex) (d : List Float) (l : List ℕ) (w : List Float) → length d ≡ n → d ≡ diagonal n a → (l ≡ order_of d (length d)) × (w ≡ sorted d)
    → (l ≡ order_of (diagonal n a) n) × (w ≡ sorted (diagonal n a))
ascends n a d l w h e s = (s.0 ∙ rw (h, e), s.1 ∙ ap sorted e)

-- ---- the whole

module _ (n : ℕ) (tolerance : Float) (k : ℕ) (a b u : List Complex) where
  abbrev limit : Float
  limit = tolerance *ᶠ scale_of n a

  pub spectrum-is : (v x : List Complex) (w : List Float) (r : Bool) → v ≡ unit n → r ≡ true → ran r b u ≡ jacobi_with k n n limit a v
      → w ≡ sorted (diagonal n b) → x ≡ columns_in (order_of (diagonal n b) n) n u → told true w x ≡ eig_of n tolerance k a
  unfolding eig_of told ran ascending
  spectrum-is v x w r e g h i j =
      ap₂ spectrum i j ∙ ap (ascending n) (sym (ap (λ (t : Bool). ran t b u) g) ∙ h ∙ with-all k n limit a v ∙ ap (jacobi k n limit a) e)

  pub spectrum-not : (v x : List Complex) (w : List Float) (r : Bool) → v ≡ unit n → r ≡ false → ran r b u ≡ jacobi_with k n n limit a v → told false w x ≡ eig_of n tolerance k a
  unfolding eig_of told ran ascending
  spectrum-not v x w r e g h = ap (ascending n) (sym (ap (λ (t : Bool). ran t b u) g) ∙ h ∙ with-all k n limit a v ∙ ap (jacobi k n limit a) e)

  pub values-are : (v : List Complex) (w : List Float) (r : Bool) → v ≡ [] → r ≡ true → ran r b u ≡ jacobi_with k 0 n limit a v → w ≡ sorted (diagonal n b) → told_values true w ≡ values_of (eig_of n tolerance k a)
  unfolding told_values ran ascending values_of
  values-are v w r e g h i =
      ap values i ∙ ap (after n) (sym (ap (λ (t : Bool). ran t b u) g) ∙ h ∙ ap (jacobi_with k 0 n limit a) e) ∙ alone n tolerance k a

  pub values-not : (v : List Complex) (w : List Float) (r : Bool) → v ≡ [] → r ≡ false → ran r b u ≡ jacobi_with k 0 n limit a v → told_values false w ≡ values_of (eig_of n tolerance k a)
  unfolding told_values ran ascending values_of
  values-not v w r e g h = ap (after n) (sym (ap (λ (t : Bool). ran t b u) g) ∙ h ∙ ap (jacobi_with k 0 n limit a) e) ∙ alone n tolerance k a

pub no-entries : (l : List Float) → length l ≡ 0 → entries l ≡ []
unfolding entries
no-entries [] h = refl
no-entries (x ∷ l) h = absurd (omega arith)
