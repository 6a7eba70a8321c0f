-- The natural logarithm as a series of whole numbers, each a count of units: units_in_one of them are 1.
--   ln (1 + z) = z - z ^ 2 / 2 + z ^ 3 / 3 - .. = z * (1 - z * (1 / 2 - z * (1 / 3 - ..)))     (0 ≤ z < 1)
-- is summed to k terms, for a z that is a / b. Each division drops less than a unit: for z up to 1 / 256 the limit, as k grows, is within 3 units of ln (1 + z).
use Rattle.std.specs.Prelude.{ℕ, zero, suc, ◌+◌, ◌-◌, ◌*◌, ◌/◌, ◌%◌, ◌^◌, Float}
use Rattle.rounding.specs.Units.{units_in_one}
use Rattle.significand.specs.Significand.{significand_of, exponent_of}

-- 1 / i - z * (1 / (i + 1) - z * ( .. )), k terms of it
unfoldable pub nested : ℕ → ℕ → ℕ → ℕ → ℕ
nested zero i a b = 0
nested (suc k) i a b = units_in_one / i - a * nested k (suc i) a b / b

-- ln (1 + a / b)
unfoldable pub ln1p : ℕ → ℕ → ℕ → ℕ
ln1p k a b = a * nested k 1 a b / b

-- ln ((n + j) / n) = ln (1 + 1 / n) + ln (1 + 1 / (n + 1)) + .., over j neighbours
unfoldable pub ln_ratio : ℕ → ℕ → ℕ → ℕ
ln_ratio k n zero = 0
ln_ratio k n (suc j) = ln_ratio k n j + ln1p k 1 (n + j)

-- ln (1 + j / 256); at j = 256 it is ln 2
abbrev pub ln_entry : ℕ → ℕ → ℕ
ln_entry k j = ln_ratio k 256 j

-- W[j] of document 01: the whole number nearest 2 ^ 70 * ln (1 + j / 256), at 12 terms; of the tables it is proved that more terms give no other (specs/Error.antt)
unfoldable pub entry_of : ℕ → ℕ
entry_of j = (ln_entry 12 j + 2 ^ 1003) / 2 ^ 1004

-- ln x is `ln_plus k x` less `ln_minus k`, for a finite x above zero: x is 2 ^ e * (1 + j / 256) * (1 + L / ((256 + j) * 2 ^ 44)), where 256 + j are the 9 highest
-- digits of the significand and L the 44 lowest, and e is `exponent_of x` less 1074
unfoldable pub ln_plus : ℕ → Float → ℕ
ln_plus k x = let m = significand_of x in exponent_of x * ln_entry k 256 + ln_entry k (m / 2 ^ 44 - 256) + ln1p k (m % 2 ^ 44) (m / 2 ^ 44 * 2 ^ 44)

unfoldable pub ln_minus : ℕ → ℕ
ln_minus k = 1074 * ln_entry k 256
