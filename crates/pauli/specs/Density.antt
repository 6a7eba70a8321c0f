-- Linear inversion (Nielsen and Chuang, section 8.4.2): the density matrix from the expectations of all Pauli strings of n qubits,
-- in float operations as the Rust's `linear_inversion` has them.
use Rattle.refusal.specs.Verdicts.{good, Verdict, after, finite_or}
use Rattle.std.specs.Prelude.{Err, ℕ, zero, suc, ◌*◌, ◌/◌, ◌%◌, ◌^◌, cond, not, List, [], eqb, ℤ, pos, Float}
use Rattle.std.specs.Float.Ieee.{lt, of_int}
use Rattle.std.specs.Float.{binary64}
use Rattle.lists.specs.Build.{build}
use Rattle.lists.specs.Fold.{fold}
use Rattle.numbers.specs.Number.{zero_f, one_f, ◌+ᶠ◌, ◌-ᶠ◌, ◌*ᶠ◌, ◌/ᶠ◌, abs, positive}
use Rattle.numbers.specs.Slice.{at, all_finite}
use Rattle.refusal.specs.declared.Refusal.{Refusal}
use Rattle.refusal.specs.declared.Refusal.TheVariants.{NonFinite, InvalidNormalization, InvalidTolerance, Operator}
use Rattle.pauli.specs.Exact.{Gaussian, string_entry}

-- the real part (0) or the imaginary part (1) of an exact entry
abbrev pub part_of : ℕ → Gaussian → ℤ
part_of zero z = z.re
part_of (suc k) z = z.im

-- a string's entry as a number: 0, 1 or -1, and every zero is positive
abbrev pub string_part : ℕ → ℕ → ℕ → ℕ → ℕ → Float
string_part n code part row column = of_int binary64 (part_of part (string_entry n code row column))

-- the identity's expectation is pinned to 1
unfoldable pub pinned : List Float → ℕ → Float
pinned es code = cond (eqb code 0) one_f (at es code)

-- what a string is multiplied by: its expectation over d = 2^n
unfoldable pub weight : ℕ → List Float → ℕ → Float
weight d es code = pinned es code /ᶠ of_int binary64 (pos d)

-- one part of entry (row, column): the strings in lexicographic order, each times its weight, summed from +0
unfoldable pub density_part : ℕ → List Float → ℕ → ℕ → ℕ → Float
density_part n es part row column = fold (4 ^ n) (λ code sum. sum +ᶠ string_part n code part row column *ᶠ weight (2 ^ n) es code) zero_f

-- a string's share added to every part of a matrix of parts
unfoldable pub with_string : ℕ → ℕ → Float → List Float → List Float
with_string n code w l = build (2 * (2 ^ n * 2 ^ n)) (λ k. at l k +ᶠ string_part n code (k % 2) (k / 2 / 2 ^ n) (k / 2 % 2 ^ n) *ᶠ w)

-- The density matrix by rows, real and imaginary part of each entry: number k is part k % 2 of entry k / 2.
unfoldable pub density_of : ℕ → List Float → List Float
density_of n es = build (2 * (2 ^ n * 2 ^ n)) (λ k. density_part n es (k % 2) (k / 2 / 2 ^ n) (k / 2 % 2 ^ n))

-- what the Rust tests of a vector of expectations, in its order: that all are finite, and that the identity's is near 1
unfoldable pub vet_of : Float → List Float → Verdict
vet_of tolerance es =
    cond (not (all_finite es)) (Err NonFinite)
    (cond (lt tolerance (abs (at es 0 -ᶠ one_f))) (Err (InvalidNormalization (at es 0)))
    good)

-- what the Rust tests before it computes: the tolerance, then the expectations
unfoldable pub admitted : {A : Type 0} → Float → List Float → (Refusal → A) → A → A
admitted tolerance es refused next = cond (not (positive tolerance)) (refused InvalidTolerance) (after (vet_of tolerance es) refused next)

-- `Operator::try_new` refuses a part that is not finite
unfoldable pub tested_of : ℕ → List Float → Verdict
tested_of n es = finite_or Operator (density_of n es)

-- the outcome
abbrev pub inverted_of : ℕ → Float → List Float → Verdict
inverted_of n tolerance es = admitted tolerance es Err (tested_of n es)

-- the numbers that a call computes: none where the expectations are not admitted
abbrev pub computed_of : ℕ → Float → List Float → List Float
computed_of n tolerance es = admitted tolerance es (λ _. []) (density_of n es)
