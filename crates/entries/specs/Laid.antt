-- A matrix changed or laid entry by entry, row by row.
use Rattle.std.specs.Prelude.{List, ℕ, ◌+◌, ◌*◌, set}
use Rattle.lists.specs.Fold.{fold}
use Rattle.complex.specs.declared.Complex.{Complex}
use Rattle.entries.specs.Entries.{entry_at}

-- entry (i, j) is put through g i j
abbrev pub changed : ℕ → (ℕ → ℕ → Complex → Complex) → ℕ → ℕ → List Complex → List Complex
changed n g i j e = set e (i * n + j) (g i j (entry_at n e i j))

-- entry (i, j) is f i j
abbrev pub laid : ℕ → (ℕ → ℕ → Complex) → ℕ → ℕ → List Complex → List Complex
laid n f i j e = set e (i * n + j) (f i j)

-- row i
unfoldable pub changed_row : ℕ → (ℕ → ℕ → Complex → Complex) → ℕ → List Complex → List Complex
changed_row n g i e = fold n (changed n g i) e

unfoldable pub laid_row : ℕ → (ℕ → ℕ → Complex) → ℕ → List Complex → List Complex
laid_row n f i e = fold n (laid n f i) e
