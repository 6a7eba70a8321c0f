-- The normalized Choi matrix of a process E on n qubits (Nielsen and Chuang, section 8.2.4): (1/d) Σ_ij |i><j| ⊗ E(|i><j|), with d = 2^n. The transfer matrix
-- R_ab = Tr[P_a E(P_b)] / d gives it, since |i><j| = (1/d) Σ_b P_b[j][i] P_b and E(P_b) = Σ_a R_ab P_a: entry ((i, r), (j, s)) is the sum over b and a of
-- P_b[j][i] / d · R_ab / d · P_a[r][s]. In float operations as the Rust's `normalized_choi` has them.
use Rattle.std.specs.Prelude.{ℕ, zero, suc, ◌+◌, ◌*◌, ◌/◌, ◌%◌, ◌^◌, List, [], pos, Float}
use Rattle.std.specs.Float.Ieee.{of_int}
use Rattle.std.specs.Float.{binary64}
use Rattle.lists.specs.Build.{build}
use Rattle.lists.specs.Fold.{fold}
use Rattle.numbers.specs.Number.{zero_f, ◌+ᶠ◌}
use Rattle.numbers.specs.Slice.{at}
use Rattle.complex.specs.declared.Complex.{Complex}
use Rattle.complex.specs.Arithmetic.{times, scaled, divided}
use Rattle.refusal.specs.declared.Refusal.TheVariants.{Operator}
use Rattle.refusal.specs.Verdicts.{Verdict, first_of, after, finite_or, checked_numbers}
use Rattle.pauli.specs.Density.{string_part}

-- an entry of a Pauli string, and d
abbrev pub string_number : ℕ → ℕ → ℕ → ℕ → Complex
string_number n code row column = record { re = string_part n code 0 row column; im = string_part n code 1 row column }

abbrev pub side_of : ℕ → Float
side_of n = of_int binary64 (pos (2 ^ n))

-- P_b[j][i] / d · R_ab / d, and that times P_a[r][s]
unfoldable pub coefficient : ℕ → Float → ℕ → ℕ → ℕ → Complex
coefficient n x b i j = divided (scaled (divided (string_number n b j i) (side_of n)) x) (side_of n)

unfoldable pub term : ℕ → Float → ℕ → ℕ → ℕ → ℕ → ℕ → ℕ → Complex
term n x b a i r j s = times (coefficient n x b i j) (string_number n a r s)

-- R_ab, by rows
abbrev pub transfer_at : ℕ → List Float → ℕ → ℕ → Float
transfer_at n values a b = at values (a * 4 ^ n + b)

-- the real part (0) or the imaginary part (1)
abbrev pub part_at : ℕ → Complex → Float
part_at zero z = z.re
part_at (suc q) z = z.im

-- one part of entry ((i, r), (j, s)): over all b, and over all a for each b, summed from +0
unfoldable pub choi_part : ℕ → List Float → ℕ → ℕ → ℕ → ℕ → ℕ → Float
choi_part n values q i r j s =
    fold (4 ^ n) (λ b sum. fold (4 ^ n) (λ a sum. sum +ᶠ part_at q (term n (transfer_at n values a b) b a i r j s)) sum) zero_f

-- number k of a matrix of 4^n by 4^n entries is part k % 2 of entry k / 2, by rows; row (i, r) is i · d + r, column (j, s) is j · d + s
abbrev pub row_at : ℕ → ℕ → ℕ
row_at n k = k / 2 / 4 ^ n

abbrev pub column_at : ℕ → ℕ → ℕ
column_at n k = k / 2 % 4 ^ n

abbrev pub on_place : {A : Type 0} → ℕ → (ℕ → ℕ → ℕ → ℕ → ℕ → A) → ℕ → A
on_place n f k = f (k % 2) (row_at n k / 2 ^ n) (row_at n k % 2 ^ n) (column_at n k / 2 ^ n) (column_at n k % 2 ^ n)

unfoldable pub choi_of : ℕ → List Float → List Float
choi_of n values = build (2 * (4 ^ n * 4 ^ n)) (on_place n (choi_part n values))

-- `Operator::try_new` refuses a part that is not finite
unfoldable pub choi_tested : ℕ → List Float → Verdict
choi_tested n values = finite_or Operator (choi_of n values)

-- the values are tested before: as many as wanted, and finite
unfoldable pub normalized_choi : ℕ → List Float → Verdict
normalized_choi n values = first_of (checked_numbers (4 ^ n * 4 ^ n) values) (choi_tested n values)

-- the numbers that are computed: none where the values are refused
unfoldable pub choi_numbers : ℕ → List Float → List Float
choi_numbers n values = after (checked_numbers (4 ^ n * 4 ^ n) values) (λ _. []) (choi_of n values)
