-- Digits of a number, one for each qubit: the first qubit's is the highest, as in the lexicographic order of tensor products (Nielsen and Chuang, section 2.1.7).
use Rattle.std.specs.Prelude.{ℕ, ◌-◌, ◌/◌, ◌%◌, ◌^◌}

-- the digit of `qubit`, counted from 0, among the n digits of `code`
unfoldable pub digit_of : ℕ → ℕ → ℕ → ℕ → ℕ
digit_of base n code qubit = code / base ^ (n - 1 - qubit) % base
