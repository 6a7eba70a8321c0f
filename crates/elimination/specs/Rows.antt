-- The row operations of Gauss-Jordan elimination (Golub and Van Loan, sections 3.2 and 3.4). A matrix of n rows of w numbers lies by rows in a list.
use Rattle.std.specs.Prelude.{ℕ, ◌+◌, ◌*◌, cond, List, eqb, length, Float}
use Rattle.lists.specs.Build.{build}
use Rattle.lists.specs.Fold.{fold}
use Rattle.lists.specs.Part.{part, on_part}
use Rattle.numbers.specs.Number.{◌-ᶠ◌, ◌*ᶠ◌, ◌/ᶠ◌}
use Rattle.numbers.specs.Slice.{at}

-- row i
abbrev pub row_of : ℕ → ℕ → List Float → List Float
row_of w i l = part (i * w) w l

-- row i put through g, the others as they were
abbrev pub on_row : ℕ → ℕ → (List Float → List Float) → List Float → List Float
on_row w i g l = on_part (i * w) w g l

-- rows i and k exchanged
unfoldable pub swapped : ℕ → ℕ → ℕ → List Float → List Float
swapped w i k l = on_row w k (λ _. row_of w i l) (on_row w i (λ _. row_of w k l) l)

-- a row divided by its entry k
unfoldable pub divided_row : ℕ → List Float → List Float
divided_row k r = build (length r) (λ j. at r j /ᶠ at r k)

-- a row less f times the row p
unfoldable pub less_row : List Float → Float → List Float → List Float
less_row p f r = build (length r) (λ j. at r j -ᶠ f *ᶠ at p j)

-- row i, unless it is row k, less its entry k times the row p
unfoldable pub eliminated_row : List Float → ℕ → ℕ → ℕ → List Float → List Float
eliminated_row p w k i l = cond (eqb i k) l (on_row w i (less_row p (at l (i * w + k))) l)

-- every other row less its entry k times row k
unfoldable pub eliminated : ℕ → ℕ → ℕ → List Float → List Float
eliminated n w k l = fold n (eliminated_row (row_of w k l) w k) l

-- column k cleared by the pivot in row p: the row is put in row k, divided by the pivot, and taken from the others
unfoldable pub cleared_by : ℕ → ℕ → ℕ → ℕ → List Float → List Float
cleared_by n w k p l = eliminated n w k (on_row w k (divided_row k) (swapped w p k l))
