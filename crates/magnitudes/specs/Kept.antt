-- What is kept of a matrix from one rotation to the next: its magnitudes above the diagonal. No definition of a result uses it.
-- They stand in rows of 16 numbers, in cells (i, j) and (j, i) alike, with 0 on the diagonal; then the largest of eight columns are found side by side.
use Rattle.std.specs.Prelude.{◌≡◌, false, cond, List, ℕ, ◌+◌, ◌-◌, ◌*◌, ◌/◌, ◌%◌, ◌<◌, eqb, ltb, set, replicate, Float}
use Rattle.std.specs.Float.Ieee.{lt}
use Rattle.lists.specs.Fold.{fold}
use Rattle.numbers.specs.Number.{zero_f}
use Rattle.numbers.specs.Slice.{at}
use Rattle.complex.specs.declared.Complex.{Complex}
use Rattle.complex.specs.Arithmetic.{magnitude}
use Rattle.entries.specs.Entries.{entry_at}
use Rattle.magnitudes.specs.declared.Pivot.{Pivot}
use Rattle.magnitudes.specs.Pivot.{larger, no_pivot}

abbrev pub cell : List Float → ℕ → ℕ → Float
cell s i j = at s (i * 16 + j)

-- of the entries (i, j) and (j, i) the one above the diagonal
abbrev pub upper : ℕ → List Complex → ℕ → ℕ → Complex
upper n a i j = cond (ltb i j) (entry_at n a i j) (entry_at n a j i)

-- the cells hold the magnitudes of the n by n matrix a
pub record Kept (n : ℕ) (a : List Complex) (s : List Float) : Type 0 where
  pub others : (i j : ℕ) → i < n → j < n → eqb i j ≡ false → cell s i j ≡ magnitude (upper n a i j)
  pub diagonal : (i : ℕ) → i < n → cell s i i ≡ zero_f

-- ---- what the code does

-- x in cells (i, j) and (j, i)
unfoldable pub put : ℕ → ℕ → Float → List Float → List Float
put i j x s = set (set s (i * 16 + j) x) (j * 16 + i) x

-- row i, right of the diagonal
unfoldable pub filled_row : ℕ → List Complex → ℕ → List Float → List Float
filled_row n a i s = fold (n - (i + 1)) (λ d. put i (i + 1 + d) (magnitude (entry_at n a i (i + 1 + d)))) s

unfoldable pub filled : ℕ → List Complex → List Float
filled n a = fold n (filled_row n a) (replicate 256 zero_f)

-- columns p and q of row i
unfoldable pub renewed_row : ℕ → List Complex → ℕ → ℕ → ℕ → List Float → List Float
renewed_row n a p q i s = put i q (magnitude (entry_at n a i q)) (put i p (magnitude (entry_at n a i p)) s)

-- rows and columns p and q
unfoldable pub renewed : ℕ → List Complex → ℕ → ℕ → List Float → List Float
renewed n a p q s = put q q zero_f (put p p zero_f (fold n (renewed_row n a p q) s))

-- the largest of m numbers, and at least 0
unfoldable pub largest : ℕ → (ℕ → Float) → Float
largest m f = fold m (λ k s. cond (lt s (f k)) (f k) s) zero_f

-- of column c, 8 h + c of the matrix, where rows up to 8 h are left out: what is below the diagonal lies under them
abbrev pub largest_in : ℕ → List Float → ℕ → ℕ → Float
largest_in n s h c = largest (n - (h * 8 + 1)) (λ d. cell s (h * 8 + 1 + d) (h * 8 + c))

-- the largest below the diagonal of column c, and maybe of some above it
abbrev pub column : ℕ → List Float → ℕ → Float
column n s c = largest_in n s (c / 8) (c % 8)

-- the first of the columns with the largest, as the pivot's p
unfoldable pub column_found : ℕ → List Float → Pivot
column_found n s = fold n (λ c. larger (column n s c) c 0) no_pivot

-- the first of the largest in row p, right of the diagonal
unfoldable pub row_found : ℕ → List Float → ℕ → Pivot
row_found n s p = fold (n - (p + 1)) (λ d. larger (cell s p (p + 1 + d)) p (p + 1 + d)) no_pivot

abbrev pub found : ℕ → List Float → Pivot
found n s = row_found n s (column_found n s).p
