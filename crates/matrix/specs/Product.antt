-- Products of real vectors and n by n matrices (Golub and Van Loan, section 1.1). A matrix lies by rows in a list.
-- Every sum is from -0, in the order of its index, as document 01 has `sum`.
use Rattle.std.specs.Prelude.{ℕ, ◌+◌, ◌*◌, ◌/◌, ◌%◌, List, Float}
use Rattle.lists.specs.Build.{build}
use Rattle.lists.specs.Fold.{fold}
use Rattle.numbers.specs.Number.{minus_zero_f, ◌+ᶠ◌, ◌*ᶠ◌}
use Rattle.numbers.specs.Slice.{at}

-- entry (i, j) of a matrix with w columns
abbrev pub cell : ℕ → List Float → ℕ → ℕ → Float
cell w a i j = at a (i * w + j)

-- f 0 + f 1 + .. + f (n - 1)
unfoldable pub sum_of : ℕ → (ℕ → Float) → Float
sum_of n f = fold n (λ k s. s +ᶠ f k) minus_zero_f

-- a · b, over n entries
unfoldable pub dot_of : ℕ → List Float → List Float → Float
dot_of n a b = sum_of n (λ k. at a k *ᶠ at b k)

-- the matrix a times the column x
unfoldable pub mat_vec_of : ℕ → List Float → List Float → List Float
mat_vec_of n a x = build n (λ i. sum_of n (λ j. cell n a i j *ᶠ at x j))

-- the row x times the matrix a
unfoldable pub row_mat_of : ℕ → List Float → List Float → List Float
row_mat_of n x a = build n (λ j. sum_of n (λ i. at x i *ᶠ cell n a i j))

-- the product of two matrices, by rows: number z is entry (z / n, z % n)
unfoldable pub mat_mul_of : ℕ → List Float → List Float → List Float
mat_mul_of n a b = build (n * n) (λ z. sum_of n (λ k. cell n a (z / n) k *ᶠ cell n b k (z % n)))

-- the transpose of a, by rows: number z is entry (z % n, z / n) of a
unfoldable pub transposed_of : ℕ → List Float → List Float
transposed_of n a = build (n * n) (λ z. cell n a (z % n) (z / n))
