-- The probes of a process (document 01, `product_probe_expectations`): every product of |0>, |1>, |+> and |+i>, and its expectations of all Pauli strings.
use Rattle.std.specs.Prelude.{ℕ, ◌+◌, ◌*◌, ◌/◌, ◌%◌, ◌^◌, List, [], ◌∷◌, Float}
use Rattle.std.specs.Float.Ieee.{neg}
use Rattle.lists.specs.Build.{build}
use Rattle.lists.specs.Fold.{fold}
use Rattle.numbers.specs.Number.{zero_f, one_f, ◌*ᶠ◌}
use Rattle.numbers.specs.Slice.{at}
use Rattle.designs.specs.Digit.{digit_of}

-- the expectations of I, X, Y and Z in each of the four states of one qubit, a row for each state
unfoldable pub local_expectations : List Float
local_expectations =
    one_f ∷ zero_f ∷ zero_f ∷ one_f
    ∷ one_f ∷ zero_f ∷ zero_f ∷ neg one_f
    ∷ one_f ∷ one_f ∷ zero_f ∷ zero_f
    ∷ one_f ∷ zero_f ∷ one_f ∷ zero_f
    ∷ []

unfoldable pub local : ℕ → ℕ → Float
local state axis = at local_expectations (state * 4 + axis)

-- The expectation of a string in a probe, both given by their base-4 digits: the product over the qubits from the first to the last, begun at 1.
-- A zero times -1 is -0, and stays so.
unfoldable pub expectation : ℕ → ℕ → ℕ → Float
expectation n probe string = fold n (λ qubit x. x *ᶠ local (digit_of 4 n probe qubit) (digit_of 4 n string qubit)) one_f

-- all expectations, a row for each probe
unfoldable pub probes_of : ℕ → List Float
probes_of n = build (4 ^ n * 4 ^ n) (λ k. expectation n (k / 4 ^ n) (k % 4 ^ n))
