-- What clearing a column makes of each entry of kept rows. Assumes nothing.
use mathlib.Core.Path.{◌≡◌, refl, sym, ◌∙◌, ap, ap₂}
use mathlib.Core.Bool.{Bool, true, false, cond}
use mathlib.Core.List.{List}
use Prim.Native.Nat.{ℕ, ◌+◌, ◌-◌, ◌*◌, ◌≤◌, ◌<◌}
use native.Mathlib.Nat.{add-zero}
use native.Mathlib.Omega.{arith}
use lib.Dec.{eqb}
use lib.ListN.{length, length-set}
use lib.Seq.{get_or-set_same, get_or-set_other}
use lib.Ieee.{Float, nan}
use Rattle.lists.specs.Fold.{fold}
use Rattle.lists.specs.Part.{part, on_part}
use Rattle.lists.proofs.Filling.{get_or-build}
use Rattle.lists.proofs.Parts.{length_part, length-put, row_fits}
use Rattle.numbers.specs.Number.{one_f, ◌+ᶠ◌, ◌-ᶠ◌, ◌*ᶠ◌, ◌/ᶠ◌}
use Rattle.numbers.specs.Slice.{at}
use Rattle.matrix.specs.Product.{cell}
use Rattle.elimination.specs.Rows.{row_of, on_row, less_row}
use Rattle.elimination.specs.Kept.{quotients, kept_part, kept_row, kept_cleared}
use Rattle.elimination.proofs.Entries.{part-entry, less-entry, length-less, entry_in, put-entry, step-length, step-entry}
use Rattle.elimination.proofs.Cleared.{before, new_entry}
use Rattle.elimination.proofs.Lent.{length-quotients, counted-fits}

-- row i of n, with the quotients q
module _ (n k : ℕ) (q : List Float) (kn : k < n) (lq : length q ≡ n + 2) (i : ℕ) where
  length-kept-part : (s : List Float) → length s ≡ n + 2 → length (kept_part k q i s) ≡ n + 2
  unfolding kept_part
  length-kept-part s h = go (eqb i k)
    where
      go : (t : Bool) → length (cond t q (less_row q (at s 0) s)) ≡ n + 2
      go true = lq
      go false = length-less q s (at s 0) ∙ h

  module _ (r : List Float) (lr : length r ≡ 2 * n + 2) where
    counted : length (part k (n + 2) r) ≡ n + 2
    counted = length_part k (n + 2) r (omega arith)

    length-stepped : length (on_part k (n + 2) (kept_part k q i) r) ≡ 2 * n + 2
    length-stepped = length-put k (n + 2) (kept_part k q i (part k (n + 2) r)) r (omega arith) (length-kept-part (part k (n + 2) r) counted) ∙ lr

    pub length-kept : length (kept_row n k q i r) ≡ 2 * n + 2
    unfolding kept_row
    length-kept = length-set (on_part k (n + 2) (kept_part k q i) r) (k + n + 2) _ ∙ length-stepped

    pub kept-twice : at (kept_row n k q i r) (k + n + 2) ≡ at (kept_row n k q i r) (k + n + 1)
    unfolding kept_row
    kept-twice =
        get_or-set_same (on_part k (n + 2) (kept_part k q i) r) (k + n + 2) _ nan (omega (arith, length-stepped))
        ∙ sym (get_or-set_other (on_part k (n + 2) (kept_part k q i) r) (k + n + 2) (k + n + 1) _ nan (λ e. omega arith))

    pub kept-row-entry : (z : ℕ) → k ≤ z → z < k + n + 2 → at (kept_row n k q i r) z ≡ cond (eqb i k) (at q (z - k)) (at r z -ᶠ at r k *ᶠ at q (z - k))
    unfolding kept_row kept_part
    kept-row-entry z kz zl =
        let e : z ≡ k + (z - k) = omega arith in
        get_or-set_other (on_part k (n + 2) (kept_part k q i) r) (k + n + 2) z _ nan (λ e. omega arith)
        ∙ ap (at (on_part k (n + 2) (kept_part k q i) r)) e
        ∙ entry_in k (n + 2) (kept_part k q i (part k (n + 2) r)) r (omega arith) (length-kept-part (part k (n + 2) r) counted) (z - k) (omega arith)
        ∙ go (eqb i k)
      where
        go : (t : Bool) → at (cond t q (less_row q (at (part k (n + 2) r) 0) (part k (n + 2) r))) (z - k) ≡ cond t (at q (z - k)) (at r z -ᶠ at r k *ᶠ at q (z - k))
        go true = refl
        go false =
            let e : k + (z - k) ≡ z = omega arith in
            less-entry q (part k (n + 2) r) (at (part k (n + 2) r) 0) (z - k) (omega (arith, counted))
            ∙ ap₂ (λ (x y : Float). x -ᶠ y *ᶠ at q (z - k)) (part-entry k (n + 2) r (z - k) (omega arith) ∙ ap (at r) e) (part-entry k (n + 2) r 0 (omega arith) ∙ ap (at r) (add-zero k))

module _ (n k p : ℕ) (l : List Float) (kn : k < n) (pn : p < n) (f : n * (2 * n + 2) ≤ length l) where
  fk : k * (2 * n + 2) + k + (n + 2) ≤ length l
  fk = counted-fits n k k (length l) kn kn f

  fp : p * (2 * n + 2) + k + (n + 2) ≤ length l
  fp = counted-fits n k p (length l) kn pn f

  moved : List Float
  moved = on_part (p * (2 * n + 2) + k) (n + 2) (λ _. part (k * (2 * n + 2) + k) (n + 2) l) l

  length_moved : length moved ≡ length l
  unfolding moved
  length_moved = length-put (p * (2 * n + 2) + k) (n + 2) (part (k * (2 * n + 2) + k) (n + 2) l) l fp (length_part (k * (2 * n + 2) + k) (n + 2) l fk)

  moved-entry : (i z : ℕ) → k ≤ z → z < k + n + 2 → cell (2 * n + 2) moved i z ≡ cell (2 * n + 2) l (before k p i) z
  unfolding moved
  moved-entry i z kz zl =
      put-entry (2 * n + 2) p k (n + 2) (part (k * (2 * n + 2) + k) (n + 2) l) l (omega arith) (row_fits p n (2 * n + 2) (length l) pn f) (length_part (k * (2 * n + 2) + k) (n + 2) l fk) i z kz (omega arith)
      ∙ go (eqb i p)
    where
      go : (t : Bool) → cond t (at (part (k * (2 * n + 2) + k) (n + 2) l) (z - k)) (cell (2 * n + 2) l i z) ≡ cell (2 * n + 2) l (cond t k i) z
      go true =
          let e : k * (2 * n + 2) + k + (z - k) ≡ k * (2 * n + 2) + z = omega arith in
          part-entry (k * (2 * n + 2) + k) (n + 2) l (z - k) (omega arith) ∙ ap (at l) e
      go false = refl

  divided : List Float
  divided = quotients n (part (p * (2 * n + 2) + k) (n + 2) l)

  long : length divided ≡ n + 2
  unfolding divided
  long = length-quotients n (part (p * (2 * n + 2) + k) (n + 2) l)

  abbrev pub quotient : ℕ → Float
  quotient z = cond (eqb (z - k) n) (cell (2 * n + 2) l p z +ᶠ one_f) (cell (2 * n + 2) l p z) /ᶠ cell (2 * n + 2) l p k

  divided-entry : (z : ℕ) → k ≤ z → z < k + n + 2 → at divided (z - k) ≡ quotient z
  unfolding divided quotients
  divided-entry z kz zl =
      let e : p * (2 * n + 2) + k + (z - k) ≡ p * (2 * n + 2) + z = omega arith in
      get_or-build nan (n + 2) (z - k) _ (omega arith)
      ∙ ap₂ (λ (x y : Float). cond (eqb (z - k) n) (x +ᶠ one_f) x /ᶠ y)
      (part-entry (p * (2 * n + 2) + k) (n + 2) l (z - k) (omega arith) ∙ ap (at l) e)
      (part-entry (p * (2 * n + 2) + k) (n + 2) l 0 (omega arith) ∙ ap (at l) (add-zero (p * (2 * n + 2) + k)))

  kept-steps : kept_cleared n k p l ≡ fold n (λ i. on_row (2 * n + 2) i (kept_row n k divided i)) moved
  unfolding kept_cleared moved divided
  kept-steps = refl

  keeps : (i : ℕ) (r : List Float) → length r ≡ 2 * n + 2 → length (kept_row n k divided i r) ≡ 2 * n + 2
  keeps i r h = length-kept n k divided kn long i r h

  pub length-kept-cleared : length (kept_cleared n k p l) ≡ length l
  length-kept-cleared = ap length kept-steps ∙ step-length (2 * n + 2) (kept_row n k divided) keeps n moved (omega (arith, length_moved)) ∙ length_moved

  -- entry z of row i, by its row
  by_row : (i z : ℕ) → i < n → z < 2 * n + 2 → cell (2 * n + 2) (kept_cleared n k p l) i z ≡ at (kept_row n k divided i (row_of (2 * n + 2) i moved)) z
  by_row i z il zw = ap (λ (m : List Float). cell (2 * n + 2) m i z) kept-steps ∙ step-entry (2 * n + 2) (kept_row n k divided) keeps n moved (omega (arith, length_moved)) i z il zw

  row-long : (i : ℕ) → i < n → length (row_of (2 * n + 2) i moved) ≡ 2 * n + 2
  row-long i il = length_part (i * (2 * n + 2)) (2 * n + 2) moved (omega (arith, row_fits i n (2 * n + 2) (length l) il f, length_moved))

  pub zero-twice : (i : ℕ) → i < n → cell (2 * n + 2) (kept_cleared n k p l) i (k + n + 2) ≡ cell (2 * n + 2) (kept_cleared n k p l) i (k + n + 1)
  zero-twice i il =
      by_row i (k + n + 2) il (omega arith)
      ∙ kept-twice n k divided kn long i (row_of (2 * n + 2) i moved) (row-long i il)
      ∙ sym (by_row i (k + n + 1) il (omega arith))

  pub kept_entry : (i z : ℕ) → i < n → k ≤ z → z < k + n + 2 → cell (2 * n + 2) (kept_cleared n k p l) i z ≡ new_entry quotient (cell (2 * n + 2) l) k p i z
  kept_entry i z il kz zl =
      let row : (y : ℕ) → k ≤ y → y < k + n + 2 → at (row_of (2 * n + 2) i moved) y ≡ cell (2 * n + 2) l (before k p i) y
      = λ y ky yl. part-entry (i * (2 * n + 2)) (2 * n + 2) moved y (omega arith) ∙ moved-entry i y ky yl in
      by_row i z il (omega arith)
      ∙ kept-row-entry n k divided kn long i (row_of (2 * n + 2) i moved) (row-long i il) z kz zl
      ∙ ap (λ (d : Float). cond (eqb i k) d (at (row_of (2 * n + 2) i moved) z -ᶠ at (row_of (2 * n + 2) i moved) k *ᶠ d)) (divided-entry z kz zl)
      ∙ ap₂ (λ (x y : Float). cond (eqb i k) (quotient z) (x -ᶠ y *ᶠ quotient z)) (row z kz zl) (row k (omega arith) (omega arith))
