-- The search for a pivot (Golub and Van Loan, section 3.4), by document 01's order of sizes, and the largest size of a matrix.
use Rattle.std.specs.Prelude.{ℕ, ◌+◌, ◌*◌, ◌-◌, Bool, true, false, cond, List, Float}
use Rattle.std.specs.Float.Ieee as Ieee
use Rattle.lists.specs.Fold.{fold}
use Rattle.numbers.specs.Number.{zero_f, abs, max, precedes}
use Rattle.numbers.specs.Slice.{at}

-- the largest size of m numbers
unfoldable pub scale_of : ℕ → List Float → Float
scale_of m a = fold m (λ k s. max s (abs (at a k))) zero_f

-- the size of entry k of row i
abbrev pub size_at : ℕ → ℕ → List Float → ℕ → Float
size_at w k l i = abs (at l (i * w + k))

-- of the rows p and i the one with the larger entry k, and i where they are equal
unfoldable pub larger_row : ℕ → ℕ → List Float → ℕ → ℕ → ℕ
larger_row w k l p i = cond (precedes (size_at w k l i) (size_at w k l p)) p i

-- the pivot's row in column k: of rows k to n - 1 the one with the largest entry k, the last on ties
unfoldable pub pivot_row : ℕ → ℕ → ℕ → List Float → ℕ
pivot_row n w k l = fold (n - k) (λ t p. larger_row w k l p (k + t)) k

-- how the code compares sizes: with a -0 as it is, since no comparison tells zeros of both signs apart
unfoldable pub magnitude : Float → Float
magnitude x = cond (Ieee.lt x zero_f) (Ieee.neg x) x

-- the magnitude s stays the largest beside x: x is below it, or s is a NaN and x none
unfoldable pub stays_largest : Float → Float → Bool
stays_largest x s = cond (Ieee.lt x s) true (cond (Ieee.is_nan x) false (Ieee.is_nan s))
