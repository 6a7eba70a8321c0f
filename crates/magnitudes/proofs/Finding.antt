-- What the search finds is the pivot, where the cells hold the matrix's magnitudes. Assumes nothing.
use mathlib.Core.Path.{◌≡◌, refl, sym, ◌∙◌, ap, subst}
use mathlib.Core.Bool.{Bool, true, false}
use mathlib.Core.Logic.{◌⊎◌, inl, inr}
use mathlib.Core.List.{List}
use Prim.Native.Nat.{ℕ, zero, suc, ◌+◌, ◌-◌, ◌*◌, ◌/◌, ◌%◌, ◌<◌, ◌≤◌}
use native.Mathlib.Nat.{eq-or-lt_of_le, le_of_suc-le-suc, not-suc-le-zero}
use native.Mathlib.Omega.{arith}
use lib.Dec.{T, eqb, ltb}
use lib.Ieee.{Float, lt, le}
use lib.Ieee.Bits.{is_true}
use borrow.Author.Tests.{ne_eqb, eqb-true, eqb-false, lt-ltb, le-ltb, ltb-true, ltb-false}
use Rattle.std.proofs.lemmas.Float.{lt_irrefl, lt_trans, lt_of_le_of_lt, lt_of_lt_of_le}
use Rattle.lists.specs.Fold.{fold}
use Rattle.lists.proofs.Folding.{fold-keeps, fold_same}
use Rattle.numbers.specs.Number.{zero_f}
use Rattle.complex.specs.declared.Complex.{Complex}
use Rattle.complex.specs.Arithmetic.{magnitude}
use Rattle.entries.specs.Entries.{entry_at}
use Rattle.magnitudes.specs.declared.Pivot.{Pivot}
use Rattle.magnitudes.specs.Pivot.{larger, no_pivot, pivot_in, pivot_of, IsPivot}
use Rattle.magnitudes.specs.Kept.{cell, Kept, column, column_found, row_found, found}
use Rattle.magnitudes.proofs.Largest.{fails, Above, Positive, at_least, not_above_trans, Largest, largest-is, positive, First, IsFirst, first-of, fold-none, Under, under-none, still_under, fold-first}

module _ (n : ℕ) (a : List Complex) (s : List Float) (kept : Kept n a s) where
  abbrev m : ℕ → ℕ → Float
  m i j = magnitude (entry_at n a i j)

  above : (i j : ℕ) → i < j → j < n → cell s i j ≡ m i j
  above i j h l = kept.others i j (omega arith) l (ne_eqb i j (λ e. omega arith)) ∙ rw (lt-ltb i j h) refl

  below : (i j : ℕ) → i < j → j < n → cell s j i ≡ m i j
  below i j h l = kept.others j i l (omega arith) (ne_eqb j i (λ e. omega arith)) ∙ rw (le-ltb j i (omega arith)) refl

  abbrev columns : ℕ → Float
  columns c = column n s c

  -- the first row of column c
  abbrev start : ℕ → ℕ
  start c = c / 8 * 8 + 1

  in-column : (c : ℕ) → Largest (n - start c) (λ d. cell s (start c + d) (c / 8 * 8 + c % 8)) (columns c)
  in-column c = largest-is (n - start c) (λ d. cell s (start c + d) (c / 8 * 8 + c % 8))

  -- a magnitude is in the column of its row
  in_place : (i j : ℕ) → i < j → j < n → cell s (start i + (j - start i)) (i / 8 * 8 + i % 8) ≡ m i j
  in_place i j h l =
      let e : start i + (j - start i) ≡ j = omega arith in
      let f : i / 8 * 8 + i % 8 ≡ i = omega arith in
      rw (e, f) (below i j h l)

  not_past : (i j : ℕ) → i < j → j < n → Above (m i j) (columns i) → ⊥
  not_past i j h l p = (in-column i).none_above (j - start i) (omega arith) (subst (λ (x : Float). Above x (columns i)) (sym (in_place i j h l)) p)

  some_column : (i j : ℕ) → i < j → j < n → Positive (m i j) → Positive (columns i)
  some_column i j h l p =
      positive (n - start i) (λ d. cell s (start i + d) (i / 8 * 8 + i % 8)) (columns i) (in-column i) (j - start i) (omega arith) (subst Positive (sym (in_place i j h l)) p)

  -- ---- no magnitude is above 0

  module _ (h : (c : ℕ) → c < n → Positive (columns c) → ⊥) where
    pivot-none : pivot_of n a ≡ no_pivot
    unfolding pivot_of pivot_in
    pivot-none =
        fold-keeps (pivot_in n a) (λ g. g ≡ no_pivot) n no_pivot refl
        (λ i g l e. rw e
        (fold-none (λ d. m i (i + 1 + d)) (λ _. i) (λ d. i + 1 + d) (n - (i + 1)) no_pivot (λ d k p. h i l (some_column i (i + 1 + d) (omega arith) (omega arith) p))))

    found-none : 0 < n → found n s ≡ no_pivot
    unfolding column_found row_found
    found-none some =
        rw (fold-none columns (λ c. c) (λ _. 0) n no_pivot (λ c l p. h c l p))
        (fold-none (λ d. cell s 0 (1 + d)) (λ _. 0) (λ d. 1 + d) (n - 1) no_pivot
        (λ d l p. h 0 some (some_column 0 (1 + d) (omega arith) (omega arith) (subst Positive (above 0 (1 + d) (omega arith) (omega arith)) p))))

    law-none : IsPivot n a no_pivot
    law-none = record {
      none_larger = λ i j k l. fails (lt zero_f (m i j)) (λ q. h i (omega arith) (some_column i j k l q));
      first = λ i j k l _ q. absurd (h i (omega arith) (some_column i j k l (subst T (sym q) tt)));
      place = inl refl;
    }

  -- ---- p is the first column with the largest

  module _ (p : ℕ) (first : IsFirst n columns p) where
    -- the largest of column p is in row p, right of the diagonal
    place : (j : ℕ) × (p < j) × (j < n) × (columns p ≡ m p j)
    place = go (in-column p).one_of
      where
        at_left : (j : ℕ) → j < p → columns p ≡ m j p → ⊥
        at_left j h e =
            let some = some_column j p h first.inside (subst Positive e first.some) in
            not_past j p h first.inside (subst (λ (x : Float). Above x (columns j)) e (first.before j h some))

        side : (j : ℕ) → j < n → columns p ≡ cell s j p → (b c : Bool) → eqb j p ≡ b → ltb j p ≡ c → (j : ℕ) × (p < j) × (j < n) × (columns p ≡ m p j)
        side j l e true c f g = absurd (lt_irrefl zero_f (subst Positive (e ∙ ap (λ (i : ℕ). cell s i p) (eqb-true j p f) ∙ kept.diagonal p first.inside) first.some))
        side j l e false true f g = let h = ltb-true j p g in absurd (at_left j h (e ∙ above j p h first.inside))
        side j l e false false f g =
            let h : p < j = after (eq-or-lt_of_le (ltb-false j p g)) in
            (j, h, l, e ∙ below p j h l)
          where
            after : (p ≡ j) ⊎ (p < j) → p < j
            after (inl q) = absurd (eqb-false j p f (sym q))
            after (inr q) = q

        go : (columns p ≡ zero_f) ⊎ ((d : ℕ) × (d < n - start p) × (columns p ≡ cell s (start p + d) (p / 8 * 8 + p % 8)) × Positive (columns p)) → (j : ℕ) × (p < j) × (j < n) × (columns p ≡ m p j)
        go (inl z) = absurd (lt_irrefl zero_f (subst Positive z first.some))
        go (inr (d, l, e, q)) =
            let j = start p + d in
            let f : p / 8 * 8 + p % 8 ≡ p = omega arith in
            side j (omega arith) (e ∙ ap (cell s j) f) (eqb j p) (ltb j p) refl refl

    abbrev row : ℕ → Float
    row d = m p (p + 1 + d)

    abbrev width : ℕ
    width = n - (p + 1)

    cells : (d : ℕ) → d < width → cell s p (p + 1 + d) ≡ row d
    cells d l = above p (p + 1 + d) (omega arith) (omega arith)

    module _ (d : ℕ) (chosen : IsFirst width row d) where
      abbrev best : Float
      best = row d

      abbrev pivot : Pivot
      pivot = record { best = best; p = p; q = p + 1 + d }

      -- the largest of all columns is not above the row's
      not_over : Above (columns p) best → ⊥
      not_over h =
          let j = place.0 in
          chosen.none_above (j - (p + 1)) (omega (arith, place.1, place.2))
          (subst (λ (k : ℕ). Above (m p k) best) (let e : j ≡ p + 1 + (j - (p + 1)) = omega (arith, place.1) in e) (subst (λ (x : Float). Above x best) place.3 h))

      row-is : (g : Pivot) → Under best g → pivot_in n a p g ≡ pivot
      unfolding pivot_in
      row-is g u = fold-first row (λ _. p) (λ d. p + 1 + d) width d chosen g u

      -- the row of cells gives the same
      row-found : row_found n s p ≡ pivot
      unfolding row_found
      row-found =
          fold_same _ _ width no_pivot (λ e t l. ap (λ (x : Float). larger x p (p + 1 + e) t) (cells e l))
          ∙ fold-first row (λ _. p) (λ d. p + 1 + d) width d chosen no_pivot (under-none best chosen.some)

      -- what stands before row p is less, and nothing is more
      less : (i j : ℕ) → i < j → j < n → i < p → Positive (m i j) → Above best (m i j)
      less i j h l b q =
          let some = some_column i j h l q in
          let under : T (le (m i j) (columns i)) = at_least (m i j) (columns i) q some (not_past i j h l) in
          let over : T (le (columns p) best) = at_least (columns p) best first.some chosen.some not_over in
          lt_of_lt_of_le (m i j) (columns p) best (lt_of_le_of_lt (m i j) (columns i) (columns p) under (first.before i b some)) over

      none_more : (i j : ℕ) → i < j → j < n → Above (m i j) best → ⊥
      none_more i j h l q =
          let some : Positive (m i j) = lt_trans zero_f best (m i j) chosen.some q in
          not_above_trans (m i j) (columns p) best first.some chosen.some
          (not_above_trans (m i j) (columns i) (columns p) (some_column i j h l some) first.some (not_past i j h l) (first.none_above i (omega arith))) not_over q

      -- so a row before p stays under it, and one after p changes nothing
      earlier : (i : ℕ) → i < p → (g : Pivot) → Under best g → Under best (pivot_in n a i g)
      unfolding pivot_in
      earlier i h g u =
          fold-keeps _ (Under best) (n - (i + 1)) g u
          (λ e t l w. still_under (λ d. m i (i + 1 + d)) (λ _. i) (λ d. i + 1 + d) best e t (λ q. less i (i + 1 + e) (omega arith) (omega arith) h q) w)

      later : (i : ℕ) → i < n → pivot_in n a i pivot ≡ pivot
      unfolding pivot_in
      later i h = fold-none (λ d. m i (i + 1 + d)) (λ _. i) (λ d. i + 1 + d) (n - (i + 1)) pivot (λ e l q. none_more i (i + 1 + e) (omega arith) (omega arith) q)

      law : IsPivot n a pivot
      law = record {
        none_larger = λ i j h l. fails (lt best (m i j)) (none_more i j h l);
        first = λ i j h l w q. is_true (lt (m i j) best) (before i j h l w (subst T (sym q) tt));
        place = inr (omega arith, omega (arith, chosen.inside), is_true (lt zero_f best) chosen.some, refl);
      }
        where
          before : (i j : ℕ) → i < j → j < n → (i < p) ⊎ ((i ≡ p) × (j < p + 1 + d)) → Positive (m i j) → Above best (m i j)
          before i j h l (inl b) q = less i j h l b q
          before i j h l (inr (e, k)) q =
              let f : j ≡ p + 1 + (j - (p + 1)) = omega (arith, e) in
              subst (Above best) (sym (rw (e, ← f) refl)) (chosen.before (j - (p + 1)) (omega (arith, e)) (subst Positive (rw (e, ← f) refl) q))

      all-rows : pivot_of n a ≡ pivot
      unfolding pivot_of fold
      all-rows = go n first.inside (omega arith)
        where
          reached : fold (suc p) (pivot_in n a) no_pivot ≡ pivot
          reached = row-is _ (fold-keeps (pivot_in n a) (Under best) p no_pivot (under-none best chosen.some) (λ i t l w. earlier i l t w))

          go : (i : ℕ) → p < i → i ≤ n → fold i (pivot_in n a) no_pivot ≡ pivot
          go zero h l = absurd (not-suc-le-zero h)
          go (suc i) h l = again (eq-or-lt_of_le (le_of_suc-le-suc h)) (λ s. go i s (omega arith))
            where
              again : (p ≡ i) ⊎ (p < i) → (p < i → fold i (pivot_in n a) no_pivot ≡ pivot) → fold (suc i) (pivot_in n a) no_pivot ≡ pivot
              again (inl e) r = subst (λ (x : ℕ). fold (suc x) (pivot_in n a) no_pivot ≡ pivot) e reached
              again (inr s) r = ap (pivot_in n a i) (r s) ∙ later i (omega arith)

    -- there is a first of the largest in row p
    chosen_there : (d : ℕ) × IsFirst width row d
    chosen_there = go (first-of width row)
      where
        go : First width row → (d : ℕ) × IsFirst width row d
        go (inl h) =
            let j = place.0 in
            let e : p + 1 + (j - (p + 1)) ≡ j = omega (arith, place.1) in
            absurd (h (j - (p + 1)) (omega (arith, place.1, place.2)) (subst (λ (k : ℕ). Positive (m p k)) (sym e) (subst Positive place.3 first.some)))
        go (inr c) = c

    something : found n s ≡ pivot_of n a
    unfolding column_found
    something =
        rw (fold-first columns (λ c. c) (λ _. 0) n p first no_pivot (under-none (columns p) first.some))
        (row-found chosen_there.0 chosen_there.1 ∙ sym (all-rows chosen_there.0 chosen_there.1))

  pub found-is : 0 < n → found n s ≡ pivot_of n a
  found-is some = go (first-of n columns)
    where
      go : First n columns → found n s ≡ pivot_of n a
      go (inl h) = found-none h some ∙ sym (pivot-none h)
      go (inr (p, first)) = something p first

  pub pivot-law : IsPivot n a (pivot_of n a)
  pivot-law = go (first-of n columns)
    where
      go : First n columns → IsPivot n a (pivot_of n a)
      go (inl h) = subst (IsPivot n a) (sym (pivot-none h)) (law-none h)
      go (inr (p, first)) = let c = chosen_there p first in subst (IsPivot n a) (sym (all-rows p first c.0 c.1)) (law p first c.0 c.1)
