-- Complex matrices in a list of numbers, by rows, two numbers an entry: real part, imaginary part.
use Rattle.std.specs.Prelude.{List, [], ◌∷◌, ℕ, ◌+◌, ◌*◌, ◌/◌, ◌%◌, get_or, Float}
use Rattle.std.specs.Float.{nan}
use Rattle.lists.specs.Build.{build}
use Rattle.complex.specs.declared.Complex.{Complex}

abbrev pub nowhere : Complex
nowhere = record { re = nan; im = nan }

-- the entries that a list of numbers holds
unfoldable pub entries : List Float → List Complex
entries [] = []
entries (x ∷ []) = []
entries (x ∷ y ∷ l) = record { re = x; im = y } ∷ entries l

-- the numbers of a list of entries: the parts of each, one after the other
unfoldable pub parts_of : List Complex → List Float
parts_of [] = []
parts_of (z ∷ l) = z.re ∷ z.im ∷ parts_of l

-- entry (i, j) of a matrix with n columns
abbrev pub entry_at : ℕ → List Complex → ℕ → ℕ → Complex
entry_at n a i j = get_or a (i * n + j) nowhere

-- the matrix of r rows and n columns whose entry (i, j) is f i j
unfoldable pub matrix : ℕ → ℕ → (ℕ → ℕ → Complex) → List Complex
matrix r n f = build (r * n) (λ k. f (k / n) (k % n))
