-- The same step (Golub and Van Loan, section 3.4) on rows without the columns of the right half that no step has filled yet.
-- Such a column is still the identity's, up to the signs of its zeros: a row has the same zero in all of them, and that zero and 1 where the identity has its 1.
-- So one zero stands for them all. A kept row has 2n + 2 numbers: the left half; the columns of the right half that steps have filled, in the order of the
-- steps; and after them the row's zero, twice. In step k the n + 2 numbers from column k on count: those before are done with, those behind not made yet.
use Rattle.std.specs.Prelude.{ℕ, ◌+◌, ◌*◌, cond, List, eqb, set, Float}
use Rattle.lists.specs.Build.{build}
use Rattle.lists.specs.Fold.{fold}
use Rattle.lists.specs.Part.{part, on_part}
use Rattle.numbers.specs.Number.{one_f, ◌+ᶠ◌, ◌/ᶠ◌}
use Rattle.numbers.specs.Slice.{at}
use Rattle.elimination.specs.Rows.{on_row, less_row}

-- the numbers of the pivot's row that count, divided by the first: number n, the first of the two zeros, is where the identity has its 1
unfoldable pub quotients : ℕ → List Float → List Float
quotients n r = build (n + 2) (λ j. cond (eqb j n) (at r j +ᶠ one_f) (at r j) /ᶠ at r 0)

-- the numbers of row i that count: the quotients q in row k, and in others what is left less the first times q
unfoldable pub kept_part : ℕ → List Float → ℕ → List Float → List Float
kept_part k q i s = cond (eqb i k) q (less_row q (at s 0) s)

-- row i, with its zero copied one column on
unfoldable pub kept_row : ℕ → ℕ → List Float → ℕ → List Float → List Float
kept_row n k q i r = set (on_part k (n + 2) (kept_part k q i) r) (k + n + 2) (at (on_part k (n + 2) (kept_part k q i) r) (k + n + 1))

-- column k cleared by the pivot in row p, whose place row k takes
unfoldable pub kept_cleared : ℕ → ℕ → ℕ → List Float → List Float
kept_cleared n k p l =
    fold n (λ i. on_row (2 * n + 2) i (kept_row n k (quotients n (part (p * (2 * n + 2) + k) (n + 2) l)) i))
    (on_part (p * (2 * n + 2) + k) (n + 2) (λ _. part (k * (2 * n + 2) + k) (n + 2) l) l)
