-- Sums of products: over a row that was lent, and row by row. Assumes nothing.
use mathlib.Core.Path.{◌≡◌, ◌∙◌, ap, ap₂}
use mathlib.Core.List.{List, ◌++◌}
use Prim.Native.Nat.{ℕ, ◌+◌, ◌-◌, ◌*◌, ◌/◌, ◌%◌, ◌≤◌, ◌<◌}
use native.Mathlib.Omega.{arith}
use lib.ListN.{length, take, drop}
use lib.Seq.{get_or-take, get_or-drop}
use lib.Ieee.{Float, nan}
use Rattle.lists.specs.Build.{build}
use Rattle.lists.specs.Fold.{fold}
use Rattle.lists.specs.Part.{part}
use Rattle.lists.proofs.Filling.{Filled, length-build, build-same}
use Rattle.lists.proofs.Folding.{fold_more, fold_same, build-fold}
use Rattle.lists.proofs.Parts.{row-of, column-of, length_part, part-lent, lent-long, row_fits}
use Rattle.lists.proofs.Rows.{rows_more}
use Rattle.numbers.specs.Number.{minus_zero_f, ◌+ᶠ◌, ◌*ᶠ◌}
use Rattle.numbers.specs.Slice.{at}
use Rattle.matrix.specs.Product.{cell, sum_of, dot_of, mat_vec_of, row_mat_of, mat_mul_of}

pub length-mat-vec : (n : ℕ) (a x : List Float) → length (mat_vec_of n a x) ≡ n
unfolding mat_vec_of
length-mat-vec n a x = length-build n _

pub length-row-mat : (n : ℕ) (x a : List Float) → length (row_mat_of n x a) ≡ n
unfolding row_mat_of
length-row-mat n x a = length-build n _

pub length-mat-mul : (n : ℕ) (a b : List Float) → length (mat_mul_of n a b) ≡ n * n
unfolding mat_mul_of
length-mat-mul n a b = length-build (n * n) _

-- two sums of the same terms
pub sum_same : (n : ℕ) (f g : ℕ → Float) → ((k : ℕ) → k < n → f k ≡ g k) → sum_of n f ≡ sum_of n g
unfolding sum_of
sum_same n f g h = fold_same (λ k s. s +ᶠ f k) (λ k s. s +ᶠ g k) n minus_zero_f (λ k s l. ap (λ (t : Float). s +ᶠ t) (h k l))

-- row i, lent by its places
pub lent-row : (l : List Float) (i w s e : ℕ) → (s ≡ i * w) × (e ≡ i * w + w) → take (e - s) (drop s l) ≡ part (i * w) w l
lent-row l i w s e (h, k) =
    let q : e - s ≡ w = omega arith in
    rw (q, h)

-- its entry j, and its length
pub part_at : (a : List Float) (i j n : ℕ) → j < n → at (part (i * n) n a) j ≡ cell n a i j
part_at a i j n l = get_or-take n (drop (i * n) a) j nan l ∙ get_or-drop (i * n) a j nan

pub row-long : (a : List Float) (i n : ℕ) → i < n → n * n ≤ length a → length (part (i * n) n a) ≡ n
row-long a i n l m = length_part (i * n) n a (row_fits i n n (length a) l m)

-- row i was lent by its places, and came back as ys
pub row-back : (f : ℕ → Float) (d : List Float) (i n s e : ℕ) (out ys : List Float) → (s ≡ i * n) × (e ≡ i * n + n) → Filled f d (i * n) out → ys ≡ build n (λ j. f (i * n + j))
    → Filled f d ((i + 1) * n) (take s out ++ (ys ++ drop (e - s) (drop s out)))
row-back f d i n s e out ys (h, k) o y = rw h (rows_more f d i n e out ys k o y)

-- the part `a..e` of a list, lent, times x
pub dot-lent : (l x : List Float) (a e n : ℕ) → e ≡ a + n → e ≤ length l → dot_of (length (take (e - a) (drop a l))) (take (e - a) (drop a l)) x ≡ dot_of n (part a n l) x
dot-lent l x a e n h k = ap₂ (λ (m : ℕ) (p : List Float). dot_of m p x) (lent-long a e n l h k) (part-lent a e n l h)

-- row i of a times x
pub dot-row : (a x : List Float) (i n : ℕ) → i < n → n * n ≤ length a → dot_of (length (part (i * n) n a)) (part (i * n) n a) x ≡ sum_of n (λ j. cell n a i j *ᶠ at x j)
unfolding dot_of
dot-row a x i n l m =
    ap (λ (m : ℕ). dot_of m (part (i * n) n a) x) (row-long a i n l m)
    ∙ sum_same n _ (λ j. cell n a i j *ᶠ at x j) (λ j l. ap (λ (t : Float). t *ᶠ at x j) (part_at a i j n l))

module _ (n : ℕ) (x a : List Float) where
  -- the rows of a up to row i, each times its number of x, added up row by row
  abbrev pub added : ℕ → List Float
  added i = fold i (λ k l. build n (λ j. at l j +ᶠ at x k *ᶠ cell n a k j)) (build n (λ _. minus_zero_f))

  pub added_more : (i : ℕ) (row out : List Float) → length row ≡ n → row ≡ added i
      → out ≡ build (length row) (λ j. at row j +ᶠ at x i *ᶠ at (part (i * n) n a) j) → out ≡ added (i + 1)
  added_more i row out m r o =
      fold_more (λ k l. build n (λ j. at l j +ᶠ at x k *ᶠ cell n a k j)) i (build n (λ _. minus_zero_f)) row out r
      (o
      ∙ ap (λ (m : ℕ). build m (λ j. at row j +ᶠ at x i *ᶠ at (part (i * n) n a) j)) m
      ∙ build-same n _ (λ j. at row j +ᶠ at x i *ᶠ cell n a i j) (λ j l. ap (λ (t : Float). at row j +ᶠ at x i *ᶠ t) (part_at a i j n l)))

  -- row by row is entry by entry
  pub added-all : (i : ℕ) (row : List Float) → i ≡ n → row ≡ added i → row ≡ row_mat_of n x a
  unfolding row_mat_of sum_of
  added-all i row h r = r ∙ ap added h ∙ build-fold nan n n (λ k j s. s +ᶠ at x k *ᶠ cell n a k j) (λ _. minus_zero_f)

-- number z of a product
abbrev pub product_at : ℕ → List Float → List Float → ℕ → Float
product_at n a b z = sum_of n (λ k. cell n a (z / n) k *ᶠ cell n b k (z % n))

-- row i of a times b is row i of the product
pub product-row : (n : ℕ) (a b : List Float) (i : ℕ) → row_mat_of n (part (i * n) n a) b ≡ build n (λ j. product_at n a b (i * n + j))
unfolding row_mat_of
product-row n a b i =
    build-same n _ (λ j. product_at n a b (i * n + j))
    (λ j l.
    sum_same n _ (λ k. cell n a ((i * n + j) / n) k *ᶠ cell n b k ((i * n + j) % n))
    (λ k m. ap (λ (t : Float). t *ᶠ cell n b k j) (part_at a i k n m) ∙ rw (row-of i j n, column-of i j n)))
