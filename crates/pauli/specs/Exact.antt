-- Pauli strings exactly (Nielsen and Chuang, sections 2.1.3 and 2.1.7): matrices of whole complex numbers, and their tensor product.
use Rattle.std.specs.Prelude.{ℕ, zero, suc, ◌+◌, ◌*◌, ◌/◌, ◌%◌, List, [], ◌∷◌, get_or, ℤ, pos, negsuc, ◌+ℤ◌, ◌-ℤ◌, ◌*ℤ◌}

-- a + b i, for whole a and b
pub record Gaussian : Type 0 where
  pub re : ℤ
  pub im : ℤ

abbrev pub gaussian : ℤ → ℤ → Gaussian
gaussian a b = record { re = a; im = b }

abbrev pub none : Gaussian
none = gaussian (pos 0) (pos 0)

abbrev pub one : Gaussian
one = gaussian (pos 1) (pos 0)

abbrev pub minus_one : Gaussian
minus_one = gaussian (negsuc 0) (pos 0)

abbrev pub i : Gaussian
i = gaussian (pos 0) (pos 1)

abbrev pub minus_i : Gaussian
minus_i = gaussian (pos 0) (negsuc 0)

unfoldable pub product : Gaussian → Gaussian → Gaussian
product x y = gaussian (x.re *ℤ y.re -ℤ x.im *ℤ y.im) (x.re *ℤ y.im +ℤ x.im *ℤ y.re)

-- the matrices I, X, Y and Z of the axes 0 to 3, by rows
unfoldable pub pauli_matrices : List (List Gaussian)
pauli_matrices =
    (one ∷ none
    ∷ none ∷ one ∷ [])
    ∷ (none ∷ one
    ∷ one ∷ none ∷ [])
    ∷ (none ∷ minus_i
    ∷ i ∷ none ∷ [])
    ∷ (one ∷ none
    ∷ none ∷ minus_one ∷ [])
    ∷ []

abbrev pub pauli_entry : ℕ → ℕ → ℕ → Gaussian
pauli_entry axis row column = get_or (get_or pauli_matrices axis []) (row * 2 + column) none

-- Entry (row, column) of the string of n axes whose base-4 digits are those of `code`, the first axis highest.
-- Of a tensor product A ⊗ B with 2 by 2 matrices B the entry (2 r + x, 2 c + y) is A (r, c) times B (x, y).
unfoldable pub string_entry : ℕ → ℕ → ℕ → ℕ → Gaussian
string_entry zero code row column = one
string_entry (suc n) code row column = product (string_entry n (code / 4) (row / 2) (column / 2)) (pauli_entry (code % 4) (row % 2) (column % 2))
