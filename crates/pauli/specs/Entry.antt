-- The one entry of a string's row that is not zero: its column, and which power of i it is. That it is the tensor product's entry is `entry-is` of proofs/Entries.antt.
use Rattle.std.specs.Prelude.{ℕ, zero, suc, ◌+◌, ◌-◌, ◌*◌, ◌/◌, ◌%◌, ◌^◌, ◌<◌, cond, List, [], ◌∷◌, ltb, eqb, T, set, length, get_or, Float}
use Rattle.std.specs.Float.Ieee.{neg, fits}
use Rattle.std.specs.Float.{binary64}
use Rattle.numbers.specs.Number.{one_f, ◌+ᶠ◌, ◌*ᶠ◌, Plain}
use Rattle.numbers.specs.Slice.{at}
use Rattle.pauli.specs.declared.Axis.{Axis}
use Rattle.pauli.specs.declared.Axis.TheVariants.{I, X, Y, Z}
use Rattle.pauli.specs.Exact.{Gaussian, none, one, i, minus_one, minus_i}

-- the axes' numbers
abbrev pub digit : Axis → ℕ
digit I = 0
digit X = 1
digit Y = 2
digit Z = 3

-- X and Y fill the other column
unfoldable pub flipped : ℕ → ℕ → ℕ
flipped axis x = cond (eqb axis 1) (1 - x) (cond (eqb axis 2) (1 - x) x)

-- the power of i of an axis in row x: Y has -i and i, Z has 1 and -1
unfoldable pub turned : ℕ → ℕ → ℕ
turned axis x = cond (eqb axis 2) (3 - 2 * x) (cond (eqb axis 3) (2 * x) 0)

unfoldable pub filled_column : ℕ → ℕ → ℕ → ℕ
filled_column zero code row = 0
filled_column (suc n) code row = filled_column n (code / 4) (row / 2) * 2 + flipped (code % 4) (row % 2)

unfoldable pub filled_power : ℕ → ℕ → ℕ → ℕ
filled_power zero code row = 0
filled_power (suc n) code row = (filled_power n (code / 4) (row / 2) + turned (code % 4) (row % 2)) % 4

-- i^k for k below 4
unfoldable pub power_of_i : ℕ → Gaussian
power_of_i k = get_or (one ∷ i ∷ minus_one ∷ minus_i ∷ []) k none

-- the place of the row's part that is not zero among the parts of the matrix, and the 1 or -1 that stands there
unfoldable pub filled_place : ℕ → ℕ → ℕ → ℕ
filled_place n code row = 2 * (row * 2 ^ n + filled_column n code row) + filled_power n code row % 2

unfoldable pub unit_of : ℕ → Float
unit_of power = cond (ltb power 2) one_f (neg one_f)

-- the string's share, w times its entry, added to that part
unfoldable pub with_entry : ℕ → ℕ → Float → ℕ → List Float → List Float
with_entry n code w row l = set l (filled_place n code row) (at l (filled_place n code row) +ᶠ unit_of (filled_power n code row) *ᶠ w)

-- no number of the list is -0, and each is one that an f64 holds: a zero added to such a number changes nothing
pub record AllPlain (l : List Float) : Type 0 where
  pub plain : (k : ℕ) → k < length l → Plain (at l k)
  pub fit : (k : ℕ) → k < length l → T (fits binary64 (at l k))
