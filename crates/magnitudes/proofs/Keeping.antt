-- The cells hold the matrix's magnitudes from the start, and again after each rotation. Assumes nothing.
use mathlib.Core.Path.{◌≡◌, refl, sym, ◌∙◌, ap, subst}
use mathlib.Core.Bool.{Bool, true, false, cond}
use mathlib.Core.Logic.{◌⊎◌, inl, inr}
use mathlib.Core.List.{List}
use Prim.Native.Nat.{ℕ, zero, suc, ◌+◌, ◌-◌, ◌*◌, ◌<◌, ◌≤◌}
use native.Mathlib.Nat.{eq-or-lt_of_le, le_of_suc-le-suc, not-suc-le-zero}
use native.Mathlib.Omega.{arith}
use lib.Dec.{eqb, ltb}
use lib.ListN.{length, get_or, set, replicate, length-set}
use lib.Seq.{get_or-set_same, get_or-set_other}
use lib.Ieee.{Float, nan, lt}
use borrow.Author.Tests.{eqb-true, eqb-false, ne_eqb, lt-ltb, le-ltb, ltb-true, ltb-false}
use Rattle.std.proofs.lemmas.List.{length-replicate, get_or-replicate}
use Rattle.lists.specs.Fold.{fold}
use Rattle.lists.proofs.Folding.{fold-keeps}
use Rattle.numbers.specs.Number.{zero_f}
use Rattle.complex.specs.declared.Complex.{Complex}
use Rattle.complex.specs.Arithmetic.{magnitude}
use Rattle.entries.specs.Entries.{entry_at}
use Rattle.magnitudes.specs.declared.Pivot.{Pivot}
use Rattle.magnitudes.specs.Pivot.{larger, no_pivot, pivot_in, pivot_of}
use Rattle.magnitudes.specs.Kept.{cell, upper, Kept, put, filled_row, filled, renewed_row, renewed, column, column_found}

-- what step k of a loop makes, and each keeps; Q holds throughout
fold-reaches : {S : Type 0} (f : ℕ → S → S) (Q P : S → Type 0) (m k : ℕ) (s : S) → k < m → Q s → ((i : ℕ) (t : S) → i < m → Q t → Q (f i t)) → ((t : S) → Q t → P (f k t))
    → ((i : ℕ) (t : S) → i < m → Q t → P t → P (f i t)) → P (fold m f s)
unfolding fold
fold-reaches f Q P zero k s h q a b c = absurd (not-suc-le-zero h)
fold-reaches f Q P (suc m) k s h q a b c =
    go (eq-or-lt_of_le (le_of_suc-le-suc h)) (λ l. fold-reaches f Q P m k s l q (λ i t g. a i t (omega arith)) b (λ i t g. c i t (omega arith)))
  where
    so_far : Q (fold m f s)
    so_far = fold-keeps f Q m s q (λ i t l. a i t (omega arith))

    go : (k ≡ m) ⊎ (k < m) → (k < m → P (fold m f s)) → P (f m (fold m f s))
    go (inl e) r = subst (λ (x : ℕ). P (f x (fold m f s))) e (b (fold m f s) so_far)
    go (inr l) r = c m (fold m f s) (omega arith) so_far (r l)

-- ---- cells

abbrev pub Long : List Float → Type 0
Long s = length s ≡ 256

length-put : (i j : ℕ) (x : Float) (s : List Float) → Long s → Long (put i j x s)
unfolding put
length-put i j x s l = simp length-set l

abbrev Hit : ℕ → ℕ → ℕ → ℕ → Type 0
Hit i j k l = (i ≡ k) × (j ≡ l)

module _ (P : Float → Type 0) (i j k l : ℕ) (x : Float) (hi : i < 16) (hj : j < 16) (hk : k < 16) (hl : l < 16) where
  one-set : (s : List Float) → Long s → (Hit i j k l → P x) → Hit i j k l ⊎ P (cell s i j) → P (cell (set s (k * 16 + l) x) i j)
  one-set s len h was = go (eqb (i * 16 + j) (k * 16 + l)) refl was
    where
      go : (b : Bool) → eqb (i * 16 + j) (k * 16 + l) ≡ b → Hit i j k l ⊎ P (cell s i j) → P (cell (set s (k * 16 + l) x) i j)
      go true e w =
          let same : i * 16 + j ≡ k * 16 + l = eqb-true _ _ e in
          let hit : Hit i j k l = (omega arith, omega arith) in
          subst P (sym (ap (λ (c : ℕ). get_or (set s (k * 16 + l) x) c nan) same ∙ get_or-set_same s (k * 16 + l) x nan (omega arith))) (h hit)
      go false e (inl (a, b)) = absurd (eqb-false _ _ e (rw (a, b)))
      go false e (inr p) = subst P (sym (get_or-set_other s (k * 16 + l) (i * 16 + j) x nan (eqb-false _ _ e))) p

-- x is put into cells (k, l) and (l, k): what it has to be where (i, j) is one of them, and what is known otherwise
module _ (P : Float → Type 0) (i j k l : ℕ) (x : Float) (hi : i < 16) (hj : j < 16) (hk : k < 16) (hl : l < 16) where
  pub put-cell : (s : List Float) → Long s → (Hit i j k l → P x) → (Hit i j l k → P x) → Hit i j k l ⊎ (Hit i j l k ⊎ P (cell s i j)) → P (cell (put k l x s) i j)
  unfolding put
  put-cell s len h g was =
      one-set P i j l k x hi hj hl hk (set s (k * 16 + l) x) (simp length-set len) g (go was)
    where
      first : Hit i j k l ⊎ P (cell s i j) → P (cell (set s (k * 16 + l) x) i j)
      first w = one-set P i j k l x hi hj hk hl s len h w

      go : Hit i j k l ⊎ (Hit i j l k ⊎ P (cell s i j)) → Hit i j l k ⊎ P (cell (set s (k * 16 + l) x) i j)
      go (inl a) = inr (first (inl a))
      go (inr (inl b)) = inl b
      go (inr (inr p)) = inr (first (inr p))

-- ---- at the start

module _ (n : ℕ) (a : List Complex) (small : n ≤ 16) where
  abbrev row_step : ℕ → ℕ → List Float → List Float
  row_step i d = put i (i + 1 + d) (magnitude (entry_at n a i (i + 1 + d)))

  length-row : (i : ℕ) (s : List Float) → Long s → Long (filled_row n a i s)
  unfolding filled_row
  length-row i s l = fold-keeps (row_step i) Long (n - (i + 1)) s l (λ d t h k. length-put i (i + 1 + d) _ t k)

  -- a cell off the diagonal
  module _ (i j : ℕ) (hi : i < n) (hj : j < n) (apart : eqb i j ≡ false) where
    abbrev Right : Float → Type 0
    Right x = x ≡ magnitude (upper n a i j)

    -- what row k puts into it is right
    right : (k l : ℕ) → k < l → Hit i j k l ⊎ Hit i j l k → Right (magnitude (entry_at n a k l))
    right k l h (inl (e, f)) = rw (e, f, lt-ltb k l h) refl
    right k l h (inr (e, f)) = rw (e, f, le-ltb l k (omega arith)) refl

    keeps : (k d : ℕ) (s : List Float) → k < n → d < n - (k + 1) → Long s → Right (cell s i j) → Right (cell (row_step k d s) i j)
    keeps k d s h l len p =
        put-cell Right i j k (k + 1 + d) _ (omega arith) (omega arith) (omega arith) (omega arith) s len (λ w. right k (k + 1 + d) (omega arith) (inl w)) (λ w. right k (k + 1 + d) (omega arith) (inr w)) (inr (inr p))

    row-keeps : (k : ℕ) (s : List Float) → k < n → Long s → Right (cell s i j) → Right (cell (filled_row n a k s) i j)
    unfolding filled_row
    row-keeps k s h len p =
        (fold-keeps (row_step k) (λ t. Long t × Right (cell t i j)) (n - (k + 1)) s (len, p) (λ d t l w. (length-put k (k + 1 + d) _ t w.0, keeps k d t h l w.0 w.1))).1

    -- the row of the lower of both numbers makes it right
    row-makes : (k l : ℕ) (s : List Float) → k < l → l < n → Long s → Hit i j k l ⊎ Hit i j l k → Right (cell (filled_row n a k s) i j)
    unfolding filled_row
    row-makes k l s h g len hit =
        fold-reaches (row_step k) Long (λ t. Right (cell t i j)) (n - (k + 1)) (l - (k + 1)) s (omega arith) len (λ d t _ w. length-put k (k + 1 + d) _ t w)
        (λ t w.
        let e : k + 1 + (l - (k + 1)) ≡ l = omega arith in
        subst (λ (y : ℕ). Right (cell (put k y (magnitude (entry_at n a k y)) t) i j)) (sym e)
        (put-cell Right i j k l _ (omega arith) (omega arith) (omega arith) (omega arith) t w (λ z. right k l h (inl z)) (λ z. right k l h (inr z)) (made hit)))
        (λ d t m w p. keeps k d t (omega arith) m w p)
      where
        made : {A : Type 0} → Hit i j k l ⊎ Hit i j l k → Hit i j k l ⊎ (Hit i j l k ⊎ A)
        made (inl w) = inl w
        made (inr w) = inr (inl w)

    filled-right : Right (cell (filled n a) i j)
    unfolding filled
    filled-right = go (ltb i j) refl
      where
        by_row : (k l : ℕ) → k < l → l < n → Hit i j k l ⊎ Hit i j l k → Right (cell (fold n (filled_row n a) (replicate 256 zero_f)) i j)
        by_row k l h g hit =
            fold-reaches (filled_row n a) Long (λ t. Right (cell t i j)) n k (replicate 256 zero_f) (omega arith) (length-replicate 256 zero_f) (λ r t _ w. length-row r t w) (λ t w. row-makes k l t h g w hit) (λ r t m w p. row-keeps r t m w p)

        go : (b : Bool) → ltb i j ≡ b → Right (cell (fold n (filled_row n a) (replicate 256 zero_f)) i j)
        go true e = by_row i j (ltb-true i j e) hj (inl (refl, refl))
        go false e = by_row j i (below (eq-or-lt_of_le (ltb-false i j e))) hi (inr (refl, refl))
          where
            below : (j ≡ i) ⊎ (j < i) → j < i
            below (inl e) = absurd (eqb-false i j apart (sym e))
            below (inr l) = l

  -- the diagonal is not touched
  filled-diagonal : (i : ℕ) → i < n → cell (filled n a) i i ≡ zero_f
  unfolding filled filled_row
  filled-diagonal i h =
      (fold-keeps (filled_row n a) (λ t. Long t × (cell t i i ≡ zero_f)) n (replicate 256 zero_f) (length-replicate 256 zero_f, get_or-replicate 256 (i * 16 + i) zero_f nan (omega arith))
      (λ k t l w.
      fold-keeps (row_step k) (λ t. Long t × (cell t i i ≡ zero_f)) (n - (k + 1)) t w
      (λ d t m w. (
        length-put k (k + 1 + d) _ t w.0,
        put-cell (λ x. x ≡ zero_f) i i k (k + 1 + d) _ (omega arith) (omega arith) (omega arith) (omega arith) t w.0 (λ z. let e = z.0 in let f = z.1 in absurd (omega arith)) (λ z. let e = z.0 in let f = z.1 in absurd (omega arith)) (inr (inr w.1)),
      )))).1

  pub long-filled : Long (filled n a)
  unfolding filled
  long-filled = fold-keeps (filled_row n a) Long n (replicate 256 zero_f) (length-replicate 256 zero_f) (λ k t l w. length-row k t w)

  pub kept-first : Kept n a (filled n a)
  kept-first = record { others = filled-right; diagonal = filled-diagonal }

-- ---- after a rotation

-- row c has the magnitudes of column c
abbrev pub Even : ℕ → List Complex → ℕ → Type 0
Even n a c = (i : ℕ) → i < n → eqb i c ≡ false → magnitude (entry_at n a c i) ≡ magnitude (entry_at n a i c)

-- a matrix b that has a's entries outside rows and columns p and q
abbrev pub SameOutside : ℕ → ℕ → ℕ → List Complex → List Complex → Type 0
SameOutside n p q a b = (i j : ℕ) → i < n → j < n → eqb i p ≡ false → eqb i q ≡ false → eqb j p ≡ false → eqb j q ≡ false → entry_at n b i j ≡ entry_at n a i j

module _ (n : ℕ) (a : List Complex) (p q : ℕ) (small : n ≤ 16) (hp : p < n) (hq : q < n) where
  length-step : (i : ℕ) (s : List Float) → Long s → Long (renewed_row n a p q i s)
  unfolding renewed_row
  length-step i s l = length-put i q _ _ (length-put i p _ s l)

  length-loop : (s : List Float) → Long s → Long (fold n (renewed_row n a p q) s)
  length-loop s l = fold-keeps (renewed_row n a p q) Long n s l (λ i t _ w. length-step i t w)

  pub long-renewed : (s : List Float) → Long s → Long (renewed n a p q s)
  unfolding renewed
  long-renewed s l = length-put q q zero_f _ (length-put p p zero_f _ (length-loop s l))

  module _ (even_p : Even n a p) (even_q : Even n a q) where
    -- a cell off the diagonal
    module _ (i j : ℕ) (hi : i < n) (hj : j < n) (apart : eqb i j ≡ false) where
      abbrev Renewed : Float → Type 0
      Renewed x = x ≡ magnitude (upper n a i j)

      -- column c's magnitude is right, in its cell and across
      at_cell : (k c : ℕ) → k < n → Even n a c → eqb k c ≡ false → (b : Bool) → ltb k c ≡ b → magnitude (entry_at n a k c) ≡ magnitude (upper n a k c)
      at_cell k c h even e true f = rw f refl
      at_cell k c h even e false f = rw f (sym (even k h e))

      across : (k c : ℕ) → k < n → Even n a c → eqb k c ≡ false → (b : Bool) → ltb c k ≡ b → magnitude (entry_at n a k c) ≡ magnitude (upper n a c k)
      across k c h even e true f = rw f (sym (even k h e))
      across k c h even e false f = rw f refl

      right_here : (k c : ℕ) → k < n → Even n a c → Hit i j k c → Renewed (magnitude (entry_at n a k c))
      right_here k c h even (e, f) = at_cell k c h even (rw (e, f) at apart) (ltb k c) refl ∙ rw (e, f) refl

      right_across : (k c : ℕ) → k < n → Even n a c → Hit i j c k → Renewed (magnitude (entry_at n a k c))
      right_across k c h even (e, f) = across k c h even (ne_eqb k c (λ x. eqb-false i j apart (e ∙ sym x ∙ sym f))) (ltb c k) refl ∙ rw (e, f) refl

      column-cell : (k c : ℕ) (s : List Float) → k < n → c < n → Even n a c → Long s → Hit i j k c ⊎ (Hit i j c k ⊎ Renewed (cell s i j)) → Renewed (cell (put k c (magnitude (entry_at n a k c)) s) i j)
      column-cell k c s h g even len was =
          put-cell Renewed i j k c _ (omega arith) (omega arith) (omega arith) (omega arith) s len (right_here k c h even) (right_across k c h even) was

      step-keeps : (k : ℕ) (s : List Float) → k < n → Long s → Renewed (cell s i j) → Renewed (cell (renewed_row n a p q k s) i j)
      unfolding renewed_row
      step-keeps k s h len r =
          column-cell k q _ h hq even_q (length-put k p _ s len) (inr (inr (column-cell k p s h hp even_p len (inr (inr r)))))

      -- in row or column p, and in row or column q
      step-makes_p : (k : ℕ) (s : List Float) → k < n → Long s → Hit i j k p ⊎ Hit i j p k → Renewed (cell (renewed_row n a p q k s) i j)
      unfolding renewed_row
      step-makes_p k s h len hit = column-cell k q _ h hq even_q (length-put k p _ s len) (inr (inr (column-cell k p s h hp even_p len (made hit))))
        where
          made : {A : Type 0} → Hit i j k p ⊎ Hit i j p k → Hit i j k p ⊎ (Hit i j p k ⊎ A)
          made (inl w) = inl w
          made (inr w) = inr (inl w)

      step-makes_q : (k : ℕ) (s : List Float) → k < n → Long s → Hit i j k q ⊎ Hit i j q k → Renewed (cell (renewed_row n a p q k s) i j)
      unfolding renewed_row
      step-makes_q k s h len hit = column-cell k q _ h hq even_q (length-put k p _ s len) (made hit)
        where
          made : {A : Type 0} → Hit i j k q ⊎ Hit i j q k → Hit i j k q ⊎ (Hit i j q k ⊎ A)
          made (inl w) = inl w
          made (inr w) = inr (inl w)

      data Known (s : List Float) : Type 0 where
        in_p : (k : ℕ) → k < n → Hit i j k p ⊎ Hit i j p k → Known s
        in_q : (k : ℕ) → k < n → Hit i j k q ⊎ Hit i j q k → Known s
        kept : Renewed (cell s i j) → Known s

      loop-right : (s : List Float) → Long s → Known s → Renewed (cell (fold n (renewed_row n a p q) s) i j)
      loop-right s len (in_p k h w) =
          fold-reaches (renewed_row n a p q) Long (λ t. Renewed (cell t i j)) n k s h len (λ m t _ z. length-step m t z) (λ t z. step-makes_p k t h z w) (λ m t l z r. step-keeps m t l z r)
      loop-right s len (in_q k h w) =
          fold-reaches (renewed_row n a p q) Long (λ t. Renewed (cell t i j)) n k s h len (λ m t _ z. length-step m t z) (λ t z. step-makes_q k t h z w) (λ m t l z r. step-keeps m t l z r)
      loop-right s len (kept r) =
          (fold-keeps (renewed_row n a p q) (λ t. Long t × Renewed (cell t i j)) n s (len, r) (λ m t l w. (length-step m t w.0, step-keeps m t l w.0 w.1))).1

      -- a zero on the diagonal is in no such cell
      beside : (c : ℕ) (s : List Float) → c < n → Long s → Renewed (cell s i j) → Renewed (cell (put c c zero_f s) i j)
      beside c s h len r =
          put-cell Renewed i j c c zero_f (omega arith) (omega arith) (omega arith) (omega arith) s len (λ w. absurd (eqb-false i j apart (w.0 ∙ sym w.1))) (λ w. absurd (eqb-false i j apart (w.0 ∙ sym w.1))) (inr (inr r))

      renewed-right : (s : List Float) → Long s → Known s → Renewed (cell (renewed n a p q s) i j)
      unfolding renewed
      renewed-right s len w = beside q _ hq (length-put p p zero_f _ (length-loop s len)) (beside p _ hp (length-loop s len) (loop-right s len w))

  -- ---- the diagonal

  abbrev Zero : Float → Type 0
  Zero x = x ≡ zero_f

  zero_at : (c : ℕ) (s : List Float) → c < n → Long s → Zero (cell (put c c zero_f s) c c)
  zero_at c s h len = put-cell Zero c c c c zero_f (omega arith) (omega arith) (omega arith) (omega arith) s len (λ _. refl) (λ _. refl) (inl (refl, refl))

  zero_keeps : (i c : ℕ) (s : List Float) → i < n → c < n → Long s → Zero (cell s i i) → Zero (cell (put c c zero_f s) i i)
  zero_keeps i c s h g len z = put-cell Zero i i c c zero_f (omega arith) (omega arith) (omega arith) (omega arith) s len (λ _. refl) (λ _. refl) (inr (inr z))

  other-diagonal : (i c k : ℕ) (x : Float) (s : List Float) → i < n → c < n → k < n → eqb i c ≡ false → Long s → Zero (cell s i i) → Zero (cell (put k c x s) i i)
  other-diagonal i c k x s h g l e len z =
      put-cell Zero i i k c x (omega arith) (omega arith) (omega arith) (omega arith) s len (λ w. absurd (eqb-false i c e w.1)) (λ w. absurd (eqb-false i c e w.0)) (inr (inr z))

  renewed-diagonal : (s : List Float) → Long s → ((i : ℕ) → i < n → Zero (cell s i i)) → (i : ℕ) → i < n → Zero (cell (renewed n a p q s) i i)
  unfolding renewed renewed_row
  renewed-diagonal s len z i h = go (eqb i p) (eqb i q) refl refl
    where
      after : List Float
      after = fold n (renewed_row n a p q) s

      long : Long after
      long = length-loop s len

      go : (b c : Bool) → eqb i p ≡ b → eqb i q ≡ c → Zero (cell (put q q zero_f (put p p zero_f after)) i i)
      go b true e f = subst (λ (k : ℕ). Zero (cell (put q q zero_f (put p p zero_f after)) k k)) (sym (eqb-true i q f)) (zero_at q _ hq (length-put p p zero_f _ long))
      go true false e f = zero_keeps i q _ h hq (length-put p p zero_f _ long) (subst (λ (k : ℕ). Zero (cell (put p p zero_f after) k k)) (sym (eqb-true i p e)) (zero_at p after hp long))
      go false false e f =
          zero_keeps i q _ h hq (length-put p p zero_f _ long)
          (zero_keeps i p after h hp long
          (fold-keeps (renewed_row n a p q) (λ t. Long t × Zero (cell t i i)) n s (len, z i h)
          (λ k t l w. (
            length-step k t w.0,
            other-diagonal i q k _ _ h hq l f (length-put k p _ t w.0) (other-diagonal i p k _ t h hp l e w.0 w.1),
          ))).1)

-- from the cells of a to those of b
pub kept-turn : (n : ℕ) (a b : List Complex) (p q : ℕ) (s : List Float) → n ≤ 16 → p < n → q < n → Long s → Kept n a s → SameOutside n p q a b → Even n b p → Even n b q → Kept n b (renewed n b p q s)
kept-turn n a b p q s small hp hq len k same even_p even_q = record {
  others = λ i j h l e. renewed-right n b p q small hp hq even_p even_q i j h l e s len (known i j h l e (eqb i p) (eqb i q) (eqb j p) (eqb j q) refl refl refl refl);
  diagonal = renewed-diagonal n b p q small hp hq s len k.diagonal;
}
  where
    known : (i j : ℕ) (h : i < n) (l : j < n) (e : eqb i j ≡ false) (u v x y : Bool) → eqb i p ≡ u → eqb i q ≡ v → eqb j p ≡ x → eqb j q ≡ y → Known n b p q small hp hq even_p even_q i j h l e s
    known i j h l e true v x y f g d c = in_p j l (inr (eqb-true i p f, refl))
    known i j h l e false true x y f g d c = in_q j l (inr (eqb-true i q g, refl))
    known i j h l e false false true y f g d c = in_p i h (inl (refl, eqb-true j p d))
    known i j h l e false false false true f g d c = in_q i h (inl (refl, eqb-true j q c))
    known i j h l e false false false false f g d c =
        kept (k.others i j h l e ∙ ap magnitude (rw (same i j h l f g d c, same j i l h d c f g) refl))

-- ---- places

-- the pivot's place is in the matrix
abbrev pub Within : ℕ → Pivot → Type 0
Within n g = (g.p < n) × (g.q < n)

within-larger : (n i j : ℕ) (x : Float) (g : Pivot) → i < n → j < n → Within n g → Within n (larger x i j g)
unfolding larger
within-larger n i j x g l m r = pick (lt g.best x)
  where
    pick : (b : Bool) → Within n (cond b (record { best = x; p = i; q = j }) g)
    pick true = (l, m)
    pick false = r

pub pivot-within : (n : ℕ) (a : List Complex) → 0 < n → Within n (pivot_of n a)
unfolding pivot_of pivot_in
pivot-within n a h =
    fold-keeps (pivot_in n a) (Within n) n no_pivot (h, h)
    (λ i g l p. fold-keeps (λ d. larger (magnitude (entry_at n a i (i + 1 + d))) i (i + 1 + d)) (Within n) (n - (i + 1)) g p (λ d t m r. within-larger n i (i + 1 + d) _ t l (omega arith) r))

pub column-within : (n : ℕ) (s : List Float) → 0 < n → (column_found n s).p < n
unfolding column_found
column-within n s h = (fold-keeps (λ c. larger (column n s c) c 0) (Within n) n no_pivot (h, h) (λ c t l r. within-larger n c 0 _ t l h r)).0
