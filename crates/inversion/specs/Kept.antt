-- What the code keeps of the matrix beside the identity, while it is reduced: rows of 2n + 2 numbers (elimination's `Kept`), and the place of each column of the right
-- half: of a column that is still the identity's the row that has its 1, and of one that is filled the step that filled it.
use Rattle.std.specs.Prelude.{ℕ, ◌+◌, ◌*◌, ◌/◌, ◌%◌, ◌≤◌, ◌<◌, ◌≡◌, Bool, true, false, cond, List, eqb, ltb, pos, length, get_or, Float}
use Rattle.std.specs.Float.{nan, inf, fin}
use Rattle.lists.specs.Build.{build}
use Rattle.numbers.specs.Number.{zero_f, one_f, ◌+ᶠ◌}
use Rattle.numbers.specs.Slice.{at}
use Rattle.matrix.specs.Product.{cell}
use Rattle.inversion.specs.Inversion.{Reduction, rows, singular}

-- entry j of row i before the first step: the matrix, and zeros
unfoldable pub start_at : ℕ → List Float → ℕ → ℕ → Float
start_at n a i j = cond (ltb j n) (at a (i * n + j)) zero_f

-- all rows before it
unfoldable pub start_rows : ℕ → List Float → List Float
start_rows n a = build (n * (2 * n + 2)) (λ z. start_at n a (z / (2 * n + 2)) (z % (2 * n + 2)))

-- the place q, when rows k and p change places
unfoldable pub relabelled : ℕ → ℕ → ℕ → ℕ
relabelled k p q = cond (eqb q k) p (cond (eqb q p) k q)

-- entry i of a column of the right half with the place q, before step k
unfoldable pub right_entry : ℕ → ℕ → List Float → ℕ → ℕ → Float
right_entry n k u q i =
    cond (ltb q k) (cell (2 * n + 2) u i (n + q)) (cond (eqb i q) (cell (2 * n + 2) u i (n + k) +ᶠ one_f) (cell (2 * n + 2) u i (n + k)))

-- +0, or the NaN that a factor which is not finite makes of it
abbrev pub Vacant : Float → Type 0
Vacant nan = Unit {0}
Vacant (inf s) = ⊥
Vacant (fin s m e) = (s ≡ false) × (m ≡ 0) × (e ≡ pos 0)

-- Before step k the rows u and the places t keep the matrix m: its left half from column k on, and each column of its right half by its place. The zero stands
-- twice, and in rows that have not been the pivot's it is +0 or a NaN.
pub record Keeps (n k : ℕ) (t : List ℕ) (u m : List Float) : Type 0 where
  pub kept : length u ≡ n * (2 * n + 2)
  pub full : length m ≡ n * (2 * n)
  pub within : (c : ℕ) → c < n → get_or t c 0 < n
  pub left : (i j : ℕ) → i < n → k ≤ j → j < n → cell (2 * n + 2) u i j ≡ cell (2 * n) m i j
  pub right : (i c : ℕ) → i < n → c < n → cell (2 * n) m i (n + c) ≡ right_entry n k u (get_or t c 0) i
  pub twice : (i : ℕ) → i < n → cell (2 * n + 2) u i (n + k + 1) ≡ cell (2 * n + 2) u i (n + k)
  pub vacant : (i : ℕ) → k ≤ i → i < n → Vacant (cell (2 * n + 2) u i (n + k))

-- whether a reduction goes on before column k, and that its matrix is kept
abbrev pub Stands : ℕ → ℕ → Bool → List ℕ → List Float → Reduction → Type 0
Stands n k going t u (rows m) = (going ≡ true) × Keeps n k t u m
Stands n k going t u singular = going ≡ false

-- the right half, each column from its place
unfoldable pub kept_right : ℕ → List ℕ → List Float → List Float
kept_right n t u = build (n * n) (λ z. cell (2 * n + 2) u (z / n) (n + get_or t (z % n) 0))
