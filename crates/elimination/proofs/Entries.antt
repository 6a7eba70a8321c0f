-- Entries of a matrix whose rows, or parts of rows, were written over or put through a step each. Assumes nothing.
use mathlib.Core.Path.{◌≡◌, refl, sym, ◌∙◌, ap, subst}
use mathlib.Core.Bool.{Bool, true, false, cond}
use mathlib.Core.List.{List, ◌++◌}
use mathlib.Core.Logic.{◌⊎◌, inl, inr, ⊎_elim}
use Prim.Native.Nat.{ℕ, zero, suc, ◌+◌, ◌-◌, ◌*◌, ◌≤◌, ◌<◌}
use native.Mathlib.Nat.{not-suc-le-zero, suc-mul, eq-or-lt_of_le}
use native.Mathlib.Omega.{arith}
use lib.Dec.{eqb, ltb}
use lib.ListN.{length, take, drop, get_or-append}
use lib.Seq.{length-take-le, get_or-append-add, get_or-take, get_or-drop, drop_at, drop-drop}
use lib.Ieee.{Float, nan}
use borrow.Author.Tests.{eqb-true, eqb-false, ltb-true, ltb-false}
use Rattle.lists.specs.Fold.{fold}
use Rattle.lists.specs.Part.{part, on_part}
use Rattle.lists.proofs.Filling.{length-build, get_or-build}
use Rattle.lists.proofs.Parts.{length_part, length-put, row_in}
use Rattle.numbers.specs.Number.{◌-ᶠ◌, ◌*ᶠ◌}
use Rattle.numbers.specs.Slice.{at}
use Rattle.matrix.specs.Product.{cell}
use Rattle.elimination.specs.Rows.{row_of, on_row, less_row}

pub part-entry : (a n : ℕ) (l : List Float) (j : ℕ) → j < n → at (part a n l) j ≡ at l (a + j)
part-entry a n l j h = get_or-take n (drop a l) j nan h ∙ get_or-drop a l j nan

pub less-entry : (p r : List Float) (f : Float) (j : ℕ) → j < length r → at (less_row p f r) j ≡ at r j -ᶠ f *ᶠ at p j
unfolding less_row
less-entry p r f j h = get_or-build nan (length r) j _ h

pub length-less : (p r : List Float) (f : Float) → length (less_row p f r) ≡ length r
unfolding less_row
length-less p r f = length-build (length r) _

-- an entry of a list whose part from a on, of m entries, was written over with r
module _ (a m : ℕ) (r l : List Float) (h : a + m ≤ length l) (k : length r ≡ m) where
  long : length (take a l) ≡ a
  long = length-take-le a l (omega arith)

  entry-before : (z : ℕ) → z < a → at (on_part a m (λ _. r) l) z ≡ at l z
  entry-before z b = get_or-append (take a l) _ nan z (omega (arith, long)) ∙ get_or-take a l z nan b

  tail-entry : (y : ℕ) → at (on_part a m (λ _. r) l) (a + y) ≡ at (r ++ drop m (drop a l)) y
  tail-entry y = ap (λ (b : ℕ). at (on_part a m (λ _. r) l) (b + y)) (sym long) ∙ get_or-append-add (take a l) (r ++ drop m (drop a l)) y nan

  pub entry_in : (y : ℕ) → y < m → at (on_part a m (λ _. r) l) (a + y) ≡ at r y
  entry_in y b = tail-entry y ∙ get_or-append r _ nan y (omega arith)

  entry-after : (y : ℕ) → at (on_part a m (λ _. r) l) (a + (m + y)) ≡ at l (a + (m + y))
  entry-after y =
      tail-entry (m + y)
      ∙ ap (λ (b : ℕ). at (r ++ drop m (drop a l)) (b + y)) (sym k)
      ∙ get_or-append-add r (drop m (drop a l)) y nan
      ∙ get_or-drop m (drop a l) y nan
      ∙ get_or-drop a l (m + y) nan

  -- an entry outside the part
  pub entry-out : (z : ℕ) → (z < a) ⊎ (a + m ≤ z) → at (on_part a m (λ _. r) l) z ≡ at l z
  entry-out z (inl b) = entry-before z b
  entry-out z (inr b) =
      let e : z ≡ a + (m + (z - (a + m))) = omega arith in
      subst (λ (y : ℕ). at (on_part a m (λ _. r) l) y ≡ at l y) (sym e) (entry-after (z - (a + m)))

-- rows other than row i lie before it or after it
other_row : (w i q j : ℕ) → j < w → (q ≡ i → ⊥) → (q * w + j < i * w) ⊎ (i * w + w ≤ q * w + j)
other_row w i q j h n = go (ltb q i) refl
  where
    go : (b : Bool) → ltb q i ≡ b → (q * w + j < i * w) ⊎ (i * w + w ≤ q * w + j)
    go true e = inl (omega (arith, row_in q i w (ltb-true q i e)))
    go false e = inr (omega (arith, row_in i q w (let f = ltb-false q i e in omega arith)))

-- columns b to b + m - 1 of row a were written over with r
module _ (w a b m : ℕ) (r l : List Float) (bw : b + m ≤ w) (fits : a * w + w ≤ length l) (long : length r ≡ m) where
  pub put-entry : (i z : ℕ) → b ≤ z → z < b + m → cell w (on_part (a * w + b) m (λ _. r) l) i z ≡ cond (eqb i a) (at r (z - b)) (cell w l i z)
  put-entry i z bz zm = go (eqb i a) refl
    where
      go : (t : Bool) → eqb i a ≡ t → cell w (on_part (a * w + b) m (λ _. r) l) i z ≡ cond t (at r (z - b)) (cell w l i z)
      go true t =
          let e : i * w + z ≡ a * w + b + (z - b) = ap (λ (x : ℕ). x * w + z) (eqb-true i a t) ∙ omega arith in
          ap (at (on_part (a * w + b) m (λ _. r) l)) e ∙ entry_in (a * w + b) m r l (omega arith) long (z - b) (omega arith)
      go false t =
          let o = other_row w a i z (omega arith) (eqb-false i a t) in
          entry-out (a * w + b) m r l (omega arith) long (i * w + z) (⊎_elim (λ x. inl (omega arith)) (λ x. inr (omega arith)) o)

-- row a was written over with r
pub row-entry : (w a : ℕ) (r l : List Float) → a * w + w ≤ length l → length r ≡ w → (i j : ℕ) → j < w → cell w (on_row w a (λ _. r) l) i j ≡ cond (eqb i a) (at r j) (cell w l i j)
row-entry w a r l f h i j jw = go (eqb i a) refl
  where
    go : (t : Bool) → eqb i a ≡ t → cell w (on_row w a (λ _. r) l) i j ≡ cond t (at r j) (cell w l i j)
    go true t = ap (λ (x : ℕ). at (on_row w a (λ _. r) l) (x * w + j)) (eqb-true i a t) ∙ entry_in (a * w) w r l f h j jw
    go false t = entry-out (a * w) w r l f h (i * w + j) (other_row w a i j jw (eqb-false i a t))

-- each of the first n rows put through its own step g
module _ (w : ℕ) (g : ℕ → List Float → List Float) (keeps : (i : ℕ) (r : List Float) → length r ≡ w → length (g i r) ≡ w) where
  abbrev Stepped : ℕ → List Float → List Float → Type 0
  Stepped n l u = (length u ≡ length l) × (drop (n * w) u ≡ drop (n * w) l) × ((i j : ℕ) → i < n → j < w → cell w u i j ≡ at (g i (row_of w i l)) j)

  -- row n is the last one that was put through its step
  last_row : (n : ℕ) (l u : List Float) → ((i j : ℕ) → i < n → j < w → cell w u i j ≡ at (g i (row_of w i l)) j)
      → (i j : ℕ) → i < suc n → j < w → cond (eqb i n) (at (g n (row_of w n l)) j) (cell w u i j) ≡ at (g i (row_of w i l)) j
  last_row n l u h i j il jw = go (eqb i n) refl
    where
      go : (t : Bool) → eqb i n ≡ t → cond t (at (g n (row_of w n l)) j) (cell w u i j) ≡ at (g i (row_of w i l)) j
      go true t = ap (λ (x : ℕ). at (g x (row_of w x l)) j) (sym (eqb-true i n t))
      go false t = let o = eqb-false i n t in h i j (⊎_elim (λ (q : suc i ≡ suc n). absurd (o (omega arith))) (λ (q : suc i < suc n). omega arith) (eq-or-lt_of_le il)) jw

  all-stepped : (n : ℕ) (l : List Float) → n * w ≤ length l → Stepped n l (fold n (λ i. on_row w i (g i)) l)
  unfolding fold
  all-stepped zero l f = (refl, refl, λ i j h _. absurd (not-suc-le-zero h))
  all-stepped (suc n) l f =
      let s : suc n * w ≡ n * w + w = suc-mul n w in
      let u = fold n (λ i. on_row w i (g i)) l in
      let h = all-stepped n l (omega arith) in
      let r = g n (row_of w n l) in
      let e : on_row w n (g n) u ≡ on_row w n (λ _. r) u = ap (λ (x : List Float). take (n * w) u ++ (g n (take w x) ++ drop w (drop (n * w) u))) h.1 in
      let b : n * w + w ≤ length u = omega (arith, h.0) in
      let k : length r ≡ w = keeps n (row_of w n l) (length_part (n * w) w l (omega arith)) in
      let d : drop (n * w + w) (on_row w n (λ _. r) u) ≡ drop (n * w + w) l
      = sym (drop-drop w (n * w) (on_row w n (λ _. r) u))
      ∙ ap (drop w) (drop_at (take (n * w) u) _ (n * w) (length-take-le (n * w) u (omega arith)))
      ∙ drop_at r _ w k
      ∙ ap (drop w) h.1
      ∙ drop-drop w (n * w) l in
      (ap length e ∙ length-put (n * w) w r u b k ∙ h.0, ap (drop (suc n * w)) e ∙ subst (λ (z : ℕ). drop z (on_row w n (λ _. r) u) ≡ drop z l) (sym s) d, λ i j il jw. ap (λ (x : List Float). cell w x i j) e ∙ row-entry w n r u b k i j jw ∙ last_row n l u h.2 i j il jw)

  pub step-length : (n : ℕ) (l : List Float) → n * w ≤ length l → length (fold n (λ i. on_row w i (g i)) l) ≡ length l
  step-length n l f = (all-stepped n l f).0

  pub step-entry : (n : ℕ) (l : List Float) → n * w ≤ length l → (i j : ℕ) → i < n → j < w → cell w (fold n (λ i. on_row w i (g i)) l) i j ≡ at (g i (row_of w i l)) j
  step-entry n l f = (all-stepped n l f).2
