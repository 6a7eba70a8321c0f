-- How a reduction goes on and ends, and what an inverse is. Assumes nothing.
use mathlib.Core.Path.{◌≡◌, refl, sym, ◌∙◌, ap, ap₂, subst}
use mathlib.Core.Bool.{Bool, true, false, not, cond}
use mathlib.Core.List.{List, [], ◌++◌}
use Prim.Native.Nat.{ℕ, zero, suc, ◌+◌, ◌-◌, ◌*◌, ◌≤◌, ◌<◌}
use native.Mathlib.Nat.{add-zero, add-suc, le_refl}
use native.Mathlib.Numerals.{add-one}
use native.Mathlib.Omega.{arith}
use lib.ListN.{length, drop, get_or}
use lib.Ieee as Ieee
use lib.Ieee.{Float}
use Rattle.lists.specs.Build.{build, over}
use Rattle.lists.specs.Fold.{fold}
use Rattle.lists.proofs.Folding.{fold-none, fold_more}
use Rattle.lists.proofs.Choices.{yes, no}
use Rattle.numbers.specs.Number.{zero_f, ◌*ᶠ◌, finite, abs, precedes}
use Rattle.numbers.specs.Slice.{at}
use Rattle.numbers.proofs.Leaves.{clash}
use Rattle.elimination.specs.Rows.{cleared_by}
use Rattle.elimination.specs.Kept.{kept_cleared}
use Rattle.pivots.specs.Pivots.{scale_of, magnitude, size_at, larger_row, pivot_row}
use Rattle.inversion.specs.Inversion.{beside_identity, Reduction, rows, singular, column_reduced, reduction_of, is_reduced, right_of, right_halves, invertible, inverse_of}
use Rattle.inversion.specs.Kept.{start_rows, relabelled, Keeps, Stands, kept_right}
use Rattle.pivots.proofs.Sizes.{same-limit}
use Rattle.pivots.proofs.Picked.{either-below}
use Rattle.inversion.proofs.Halves.{keeps-first, length-right, right_kept}
use Rattle.inversion.proofs.Steps.{keeps_on}

-- either row lies from k on
either-from : (k p i : ℕ) (b : Bool) → k ≤ p → k ≤ i → k ≤ cond b p i
either-from k p i true a b = a
either-from k p i false a b = b

-- kept rows have the matrix's pivot, and it is none of the rows before k
module _ (n k : ℕ) (t : List ℕ) (u m : List Float) (h : Keeps n k t u m) (kn : k < n) where
  same_size : (i : ℕ) → i < n → size_at (2 * n + 2) k u i ≡ size_at (2 * n) k m i
  same_size i l = ap abs (h.left i k l (le_refl k) kn)

  abbrev picked : ℕ → List Float → ℕ → ℕ
  picked w l t = fold t (λ t p. larger_row w k l p (k + t)) k

  same_rows : (t : ℕ) → t ≤ n - k → (picked (2 * n + 2) u t ≡ picked (2 * n) m t) × (picked (2 * n + 2) u t < n) × (k ≤ picked (2 * n + 2) u t)
  unfolding fold larger_row
  same_rows zero l = (refl, kn, le_refl k)
  same_rows (suc t) l =
      let r = same_rows t (omega arith) in
      let p = picked (2 * n + 2) u t in
      let b = precedes (size_at (2 * n + 2) k u (k + t)) (size_at (2 * n + 2) k u p) in
      let e : larger_row (2 * n + 2) k u p (k + t) ≡ larger_row (2 * n) k m p (k + t) = ap₂ (λ (x y : Float). cond (precedes x y) p (k + t)) (same_size (k + t) (omega arith)) (same_size p r.1) in
      (e ∙ ap (λ (q : ℕ). larger_row (2 * n) k m q (k + t)) r.0, either-below n p (k + t) b _ r.1 (omega arith) refl, either-from k p (k + t) b r.2 (omega arith))

  same-pivot : pivot_row n (2 * n + 2) k u ≡ pivot_row n (2 * n) k m
  unfolding pivot_row
  same-pivot = (same_rows (n - k) (le_refl (n - k))).0

  pivot-from : k ≤ pivot_row n (2 * n + 2) k u
  unfolding pivot_row
  pivot-from = (same_rows (n - k) (le_refl (n - k))).2

-- column k of a reduction that has come to the kept rows u, or has ended
module _ (n : ℕ) (limit : Float) (k : ℕ) (t : List ℕ) (u : List Float) where
  has_ended : (s : Reduction) → Stands n k false t u s → Stands n (k + 1) false t u (column_reduced n limit k s)
  unfolding column_reduced
  has_ended (rows m) h = clash h.0
  has_ended singular h = refl

  -- the pivot is in row p, and its magnitude is x
  module _ (p : ℕ) (x : Float) (kn : k < n) (pn : p < n) (q : p ≡ pivot_row n (2 * n + 2) k u) (e : x ≡ magnitude (at u (p * (2 * n + 2) + k))) where
    row-of-pivot : (m : List Float) → Keeps n k t u m → p ≡ pivot_row n (2 * n) k m
    row-of-pivot m h = q ∙ same-pivot n k t u m h kn

    same_test : (m : List Float) → Keeps n k t u m → Ieee.le (size_at (2 * n) k m (pivot_row n (2 * n) k m)) limit ≡ Ieee.le x limit
    same_test m h =
        sym
        (ap (λ (y : Float). Ieee.le y limit) e
        ∙ same-limit (at u (p * (2 * n + 2) + k)) limit
        ∙ ap (λ (y : Float). Ieee.le (abs y) limit) (h.left p k pn (le_refl k) kn)
        ∙ ap (λ (r : ℕ). Ieee.le (size_at (2 * n) k m r) limit) (row-of-pivot m h))

    pub ends-here : Ieee.le x limit ≡ true → (s : Reduction) → Stands n k true t u s → Stands n (k + 1) false t u (column_reduced n limit k s)
    unfolding column_reduced
    ends-here l (rows m) h = rw (same_test m h.1, l) refl
    ends-here l singular h = clash (sym h)

    pub goes_on : (t₁ : List ℕ) (u₁ : List Float) → Ieee.le x limit ≡ false → length t ≡ n → u₁ ≡ kept_cleared n k p u → t₁ ≡ build (length t) (λ c. relabelled k p (get_or t c 0))
        → (s : Reduction) → Stands n k true t u s → Stands n (k + 1) true t₁ u₁ (column_reduced n limit k s)
    unfolding column_reduced
    goes_on t₁ u₁ l lt eu et (rows m) h =
        let kp : k ≤ p = subst (λ (r : ℕ). k ≤ r) (sym q) (pivot-from n k t u m h.1 kn) in
        let d = keeps_on n k p t u m kn kp pn h.1 in
        let b : t₁ ≡ build n (λ c. relabelled k p (get_or t c 0)) = et ∙ ap (λ (z : ℕ). build z (λ c. relabelled k p (get_or t c 0))) lt in
        let a = subst (λ (v : List Float). Keeps n (k + 1) t₁ v (cleared_by n (2 * n) k p m)) (sym eu) (subst (λ (v : List ℕ). Keeps n (k + 1) v (kept_cleared n k p u) (cleared_by n (2 * n) k p m)) (sym b) d) in
        rw (same_test m h.1, l, ← row-of-pivot m h.1) (refl, a)
    goes_on t₁ u₁ l lt eu et singular h = clash (sym h)

-- the reduction before column k, column after column
module _ (n : ℕ) (limit : Float) (a : List Float) where
  pub stands-first : (t : List ℕ) (u : List Float) (z : ℕ) → z ≡ n → t ≡ build z (λ c. c) → u ≡ start_rows n a → Stands n 0 true t u (fold 0 (column_reduced n limit) (rows (beside_identity n a)))
  stands-first t u z e f g =
      subst (Stands n 0 true t u) (fold-none (column_reduced n limit) (rows (beside_identity n a)))
      (refl, subst (λ (v : List Float). Keeps n 0 t v (beside_identity n a)) (sym g) (subst (λ (v : List ℕ). Keeps n 0 v (start_rows n a) (beside_identity n a)) (sym (f ∙ ap (λ (z : ℕ). build z (λ c. c)) e)) (keeps-first n a)))

  pub stands-next : (k : ℕ) (going : Bool) (t : List ℕ) (u : List Float) → Stands n (k + 1) going t u (column_reduced n limit k (fold k (column_reduced n limit) (rows (beside_identity n a))))
      → Stands n (k + 1) going t u (fold (k + 1) (column_reduced n limit) (rows (beside_identity n a)))
  stands-next k going t u h = subst (Stands n (k + 1) going t u) (fold_more (column_reduced n limit) k (rows (beside_identity n a)) _ _ refl refl) h

  pub stands-last : (k : ℕ) (going : Bool) (t : List ℕ) (u : List Float) → k ≡ n → Stands n k going t u (fold k (column_reduced n limit) (rows (beside_identity n a)))
      → Stands n n going t u (fold n (column_reduced n limit) (rows (beside_identity n a)))
  stands-last k going t u e h = subst (λ (j : ℕ). Stands n j going t u (fold j (column_reduced n limit) (rows (beside_identity n a)))) e h

  -- a reduction that has ended before column k stays ended, d columns on and to the last
  stays_ended : (k d : ℕ) (t : List ℕ) (u : List Float) → Stands n k false t u (fold k (column_reduced n limit) (rows (beside_identity n a)))
      → Stands n (k + d) false t u (fold (k + d) (column_reduced n limit) (rows (beside_identity n a)))
  stays_ended k zero t u h = rw add-zero h
  stays_ended k (suc d) t u h = rw (add-suc, ← add-one (k + d)) (stands-next (k + d) false t u (has_ended n limit (k + d) t u _ (stays_ended k d t u h)))

  pub ended-last : (k : ℕ) (t : List ℕ) (u : List Float) → k ≤ n → Stands n k false t u (fold k (column_reduced n limit) (rows (beside_identity n a)))
      → Stands n n false t u (fold n (column_reduced n limit) (rows (beside_identity n a)))
  ended-last k t u l h = stands-last (k + (n - k)) false t u (omega arith) (stays_ended k (n - k) t u h)

-- of a reduction that was not ended the places lie within n
pub places-within : (n : ℕ) (t : List ℕ) (u : List Float) (s : Reduction) → Stands n n true t u s → (c : ℕ) → c < n → get_or t c 0 < n
places-within n t u (rows m) h = h.1.within
places-within n t u singular h = clash (sym h)

-- the tests of the scale s
module _ (n : ℕ) (threshold : Float) (a : List Float) (s : Float) (e : s ≡ scale_of (n * n) a) where
  pub all-zero : Ieee.eq s zero_f ≡ true → singular ≡ reduction_of n threshold a
  unfolding reduction_of
  all-zero z = rw (← e) (yes _ z)

  pub not_finite : Ieee.eq s zero_f ≡ false → not (finite s) ≡ true → singular ≡ reduction_of n threshold a
  unfolding reduction_of
  not_finite z f = rw (← e) (no _ z (yes _ f))

  pub all-reduced : (found : Bool) (t : List ℕ) (y : List Float) → Ieee.eq s zero_f ≡ false → not (finite s) ≡ false
      → Stands n n found t y (fold n (column_reduced n (threshold *ᶠ s)) (rows (beside_identity n a))) → Stands n n found t y (reduction_of n threshold a)
  unfolding reduction_of
  all-reduced found t y z f h =
      let q : fold n (column_reduced n (threshold *ᶠ s)) (rows (beside_identity n a)) ≡ reduction_of n threshold a = rw (← e) (no _ z (no _ f refl)) in
      subst (Stands n n found t y) q h

module _ (n : ℕ) (threshold : Float) (a : List Float) where
  -- a singular matrix: the answer, and the list d as it was
  pub no-inverse : (d : List Float) → singular ≡ reduction_of n threshold a → (false ≡ invertible n threshold a) × (d ≡ over (inverse_of n threshold a) d)
  unfolding invertible inverse_of
  no-inverse d h = (ap is_reduced h, ap (λ (r : Reduction). over (right_of n r) d) h)

  -- the right halves were written over the front of d
  pub an-inverse : (l d m : List Float) → rows l ≡ reduction_of n threshold a → m ≡ right_halves n l ++ drop (n * n) d
      → (true ≡ invertible n threshold a) × (m ≡ over (inverse_of n threshold a) d)
  unfolding invertible inverse_of
  an-inverse l d m h e =
      (ap is_reduced h, e ∙ ap (λ (c : ℕ). right_halves n l ++ drop c d) (sym (length-right n l)) ∙ ap (λ (r : Reduction). over (right_of n r) d) h)

  -- the reduction of the rows u is done: it ended before the last column, or the right half was written over the front of d
  pub none_found : (t : List ℕ) (u d : List Float) → Stands n n false t u (reduction_of n threshold a) → (false ≡ invertible n threshold a) × (d ≡ over (inverse_of n threshold a) d)
  none_found t u d h = no-inverse d (go (reduction_of n threshold a) h)
    where
      go : (r : Reduction) → Stands n n false t u r → singular ≡ r
      go (rows m) s = clash s.0
      go singular s = refl

  pub one_found : (t : List ℕ) (u d m : List Float) → Stands n n true t u (reduction_of n threshold a) → m ≡ kept_right n t u ++ drop (n * n) d
      → (true ≡ invertible n threshold a) × (m ≡ over (inverse_of n threshold a) d)
  one_found t u d m h w = go (reduction_of n threshold a) refl h
    where
      go : (s : Reduction) → s ≡ reduction_of n threshold a → Stands n n true t u s → (true ≡ invertible n threshold a) × (m ≡ over (inverse_of n threshold a) d)
      go (rows l) q s = an-inverse l d m q (w ∙ ap (λ (z : List Float). z ++ drop (n * n) d) (right_kept n t u l s.1))
      go singular q s = clash (sym s)

  pub length-inverse : invertible n threshold a ≡ true → length (inverse_of n threshold a) ≡ n * n
  unfolding invertible inverse_of
  length-inverse h = go (reduction_of n threshold a) h
    where
      go : (r : Reduction) → is_reduced r ≡ true → length (right_of n r) ≡ n * n
      go (rows l) h = length-right n l
      go singular h = clash h

  pub inverse-none : invertible n threshold a ≡ false → inverse_of n threshold a ≡ []
  unfolding invertible inverse_of
  inverse-none h = go (reduction_of n threshold a) h
    where
      go : (r : Reduction) → is_reduced r ≡ false → right_of n r ≡ []
      go (rows l) h = clash (sym h)
      go singular h = refl
