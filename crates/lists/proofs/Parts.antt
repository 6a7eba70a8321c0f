-- Parts of lists, lent and given back, and rows of a matrix that lies by rows. Assumes nothing.
use mathlib.Core.Path.{◌≡◌, sym, ◌∙◌, ap, ap₂}
use mathlib.Core.List.{List, ◌++◌}
use Prim.Native.Nat.{ℕ, suc, ◌+◌, ◌-◌, ◌*◌, ◌/◌, ◌%◌, ◌≤◌, ◌<◌}
use native.Mathlib.Nat.{le_refl, suc-mul, mul-le-mul_right, mul-add-div_right, mul-add-mod_self_right, div-eq_of_lt, mod-eq_of_lt, add-zero}
use native.Mathlib.Omega.{arith}
use lib.ListN.{length, take, drop, length-take, length-drop, length-append, take-append-drop}
use lib.Seq.{take_at, drop_at, length-take-le}
use Rattle.lists.specs.Build.{over}
use Rattle.lists.specs.Part.{part, on_part}

module _ {A : Type 0} where
  pub length_part : (a n : ℕ) (l : List A) → a + n ≤ length l → length (part a n l) ≡ n
  length_part a n l h = simp (length-take, length-drop) (omega arith)

  -- a part `a..e` that is lent
  pub part-lent : (a e n : ℕ) (l : List A) → e ≡ a + n → take (e - a) (drop a l) ≡ part a n l
  part-lent a e n l h = let k : e - a ≡ n = omega arith in rw k

  -- a part `a..e` was lent and came back as ys
  pub part-back : (a e w : ℕ) (g : List A → List A) (l ys : List A) → e ≡ a + w → ys ≡ g (take (e - a) (drop a l)) → take a l ++ (ys ++ drop (e - a) (drop a l)) ≡ on_part a w g l
  part-back a e w g l ys h p =
      let k : e - a ≡ w = omega arith in
      rw (p, k)

  -- a part that was lent is as long as it is said to be
  pub lent-long : (a e w : ℕ) (l : List A) → e ≡ a + w → e ≤ length l → length (take (e - a) (drop a l)) ≡ w
  lent-long a e w l h k = simp (length-take, length-drop) (omega arith)

  -- the part `a..e` was written over with the front of s, which is r
  pub put_back : (a e w : ℕ) (r s l ys : List A) → e ≡ a + w → e ≤ length l → take w s ≡ r → ys ≡ take (length (take (e - a) (drop a l))) s
      → take a l ++ (ys ++ drop (e - a) (drop a l)) ≡ on_part a w (λ _. r) l
  put_back a e w r s l ys h k q y = part-back a e w (λ _. r) l ys h (y ∙ ap (λ (m : ℕ). take m s) (lent-long a e w l h k) ∙ q)

  -- written over with itself
  pub put_same : (a w : ℕ) (l : List A) → on_part a w (λ _. part a w l) l ≡ l
  put_same a w l = ap (λ (t : List A). take a l ++ t) (take-append-drop w (drop a l)) ∙ take-append-drop a l

  -- it keeps the length
  pub length-put : (a w : ℕ) (r l : List A) → a + w ≤ length l → length r ≡ w → length (on_part a w (λ _. r) l) ≡ length l
  length-put a w r l h k = simp (length-append, length-take, length-drop, k) (omega arith)

  put-tail : (a w : ℕ) (r l : List A) → a + w ≤ length l → drop a (on_part a w (λ _. r) l) ≡ r ++ drop w (drop a l)
  put-tail a w r l h = drop_at (take a l) _ a (length-take-le a l (omega arith))

  -- a part that was written over with r holds r; and put through g after that, g r
  pub part-put : (a w : ℕ) (r l : List A) → a + w ≤ length l → length r ≡ w → part a w (on_part a w (λ _. r) l) ≡ r
  part-put a w r l h k = ap (take w) (put-tail a w r l h) ∙ take_at r (drop w (drop a l)) w k

  pub on-put : (a w : ℕ) (g : List A → List A) (r l : List A) → a + w ≤ length l → length r ≡ w → on_part a w g (on_part a w (λ _. r) l) ≡ on_part a w (λ _. g r) l
  on-put a w g r l h k =
      ap (λ (t : List A). t ++ (g (part a w (on_part a w (λ _. r) l)) ++ drop w (drop a (on_part a w (λ _. r) l)))) (take_at (take a l) _ a (length-take-le a l (omega arith)))
      ∙ ap₂ (λ (x y : List A). take a l ++ (g x ++ y)) (part-put a w r l h k) (ap (drop w) (put-tail a w r l h) ∙ drop_at r (drop w (drop a l)) w k)

  -- what the front of a copy holds
  pub copied : (a w : ℕ) (l d s : List A) → a + w ≤ length l → s ≡ part a w l ++ d → take w s ≡ part a w l
  copied a w l d s h e = ap (take w) e ∙ take_at (part a w l) d w (length_part a w l h)

  pub copied-long : (a w : ℕ) (l d s : List A) → a + w ≤ length l → s ≡ part a w l ++ d → length (take w s) ≡ w
  copied-long a w l d s h e = ap length (copied a w l d s h e) ∙ length_part a w l h

-- x was written over the first n entries of l, and has as many
pub over-front : {A : Type 0} (x l : List A) {y : List A} {n : ℕ} → length x ≡ n → y ≡ x ++ drop n l → y ≡ over x l
over-front x l k e = e ∙ ap (λ (j : ℕ). x ++ drop j l) (sym k)

-- a starts with x, which has m entries: the front of a, lent again
module _ {A : Type 0} (x r : List A) {a : List A} {m : ℕ} (f : a ≡ x ++ r) (k : length x ≡ m) where
  pub front-again : take m a ≡ x
  front-again = ap (take m) f ∙ take_at x r m k

  pub front_fits : m ≤ length a
  front_fits = omega (arith, ap length f, length-append x r)

  pub front_length : length (take m a) ≡ m
  front_length = ap length front-again ∙ k

-- the first m entries of z were lent, and came back as y, which is w
module _ {A : Type 0} (m : ℕ) (y z w : List A) (e : y ≡ w) (l : length w ≡ m) where
  pub front-is : take m (y ++ drop m z) ≡ w
  front-is = take_at y (drop m z) m (ap length e ∙ l) ∙ e

  -- a row of m entries was written over with that front
  pub front-put : (k : ℕ) (row : List A) → k ≡ m → row ≡ take k (y ++ drop m z) → row ≡ w
  front-put k row h r = r ∙ ap (λ (k : ℕ). take k (y ++ drop m z)) h ∙ front-is

  pub front-over : y ++ drop m z ≡ over w z
  front-over = rw (e, l)

  pub front-keeps : m ≤ length z → length (y ++ drop m z) ≡ length z
  front-keeps h = simp (length-append, length-drop) (omega (arith, ap length e))

  pub front_long : m ≤ length (y ++ drop m z)
  front_long = omega (arith, length-append y (drop m z), ap length e)

-- row i of n rows of w lies within m
pub row_fits : (i n w m : ℕ) → i < n → n * w ≤ m → i * w + w ≤ m
row_fits i n w m h k =
    let p : suc i * w ≤ n * w = mul-le-mul_right w h in
    let q : suc i * w ≡ i * w + w = suc-mul i w in
    omega arith

pub row_in : (i n w : ℕ) → i < n → i * w + w ≤ n * w
row_in i n w h = row_fits i n w (n * w) h (le_refl (n * w))

-- entry j of row i lies within r rows of n
pub entry-fits : (i j r n : ℕ) → i < r → j < n → i * n + j < r * n
entry-fits i j r n h l =
    let p : suc i * n ≤ r * n = mul-le-mul_right n h in
    let q : suc i * n ≡ i * n + n = suc-mul i n in
    omega arith

-- the row and the column of an entry
pub row-of : (i j n : ℕ) → j < n → (i * n + j) / n ≡ i
row-of i j n h = mul-add-div_right (omega arith) i j ∙ rw (div-eq_of_lt h, add-zero)

pub column-of : (i j n : ℕ) → j < n → (i * n + j) % n ≡ j
column-of i j n h = mul-add-mod_self_right i n j ∙ mod-eq_of_lt h
