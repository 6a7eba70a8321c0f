-- The inverse of a real n by n matrix by Gauss-Jordan elimination with partial pivoting (Golub and Van Loan, section 3.4), and with document 01's rule
-- for pivots and the Rust's threshold. The matrix lies by rows. It is reduced beside the identity, in rows of 2n numbers.
use Rattle.std.specs.Prelude.{ℕ, ◌+◌, ◌*◌, ◌/◌, ◌%◌, Bool, true, false, not, cond, List, [], eqb, ltb, Float}
use Rattle.std.specs.Float.Ieee as Ieee
use Rattle.lists.specs.Build.{build}
use Rattle.lists.specs.Fold.{fold}
use Rattle.numbers.specs.Number.{zero_f, one_f, ◌*ᶠ◌, finite}
use Rattle.numbers.specs.Slice.{at}
use Rattle.elimination.specs.Rows.{cleared_by}
use Rattle.pivots.specs.Pivots.{scale_of, size_at, pivot_row}

-- entry j of row i of the matrix beside the identity
unfoldable pub beside_at : ℕ → List Float → ℕ → ℕ → Float
beside_at n a i j = cond (ltb j n) (at a (i * n + j)) (cond (eqb j (n + i)) one_f zero_f)

-- the matrix beside the identity, by rows
unfoldable pub beside_identity : ℕ → List Float → List Float
beside_identity n a = build (n * (2 * n)) (λ z. beside_at n a (z / (2 * n)) (z % (2 * n)))

-- how far the reduction came: its rows, or that a pivot was too small
pub data Reduction : Type 0 where
  rows : List Float → Reduction
  singular : Reduction

-- column k: a pivot at most the limit ends the reduction; a NaN is not at most any limit
unfoldable pub column_reduced : ℕ → Float → ℕ → Reduction → Reduction
column_reduced n limit k singular = singular
column_reduced n limit k (rows l) =
    cond (Ieee.le (size_at (2 * n) k l (pivot_row n (2 * n) k l)) limit) singular
    (rows (cleared_by n (2 * n) k (pivot_row n (2 * n) k l) l))

-- column after column, with the threshold relative to the largest size; a matrix of zeros, or one whose largest size is infinite, is singular
unfoldable pub reduction_of : ℕ → Float → List Float → Reduction
reduction_of n threshold a =
    cond (Ieee.eq (scale_of (n * n) a) zero_f) singular
    (cond (not (finite (scale_of (n * n) a))) singular
    (fold n (column_reduced n (threshold *ᶠ scale_of (n * n) a)) (rows (beside_identity n a))))

-- the right half of each row: where the left halves are the identity, the inverse
unfoldable pub right_halves : ℕ → List Float → List Float
right_halves n l = build (n * n) (λ z. at l (z / n * (2 * n) + n + z % n))

abbrev pub is_reduced : Reduction → Bool
is_reduced (rows l) = true
is_reduced singular = false

abbrev pub right_of : ℕ → Reduction → List Float
right_of n (rows l) = right_halves n l
right_of n singular = []

-- whether the matrix has an inverse, as far as the threshold tells
unfoldable pub invertible : ℕ → Float → List Float → Bool
invertible n threshold a = is_reduced (reduction_of n threshold a)

-- the inverse by rows; none where there is none
unfoldable pub inverse_of : ℕ → Float → List Float → List Float
inverse_of n threshold a = right_of n (reduction_of n threshold a)
