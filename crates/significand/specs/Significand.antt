-- A number's significand and exponent. Document 01 writes a number as M · 2 ^ (e - 52) in size, with 2 ^ 52 ≤ M < 2 ^ 53.
-- Of n units, which are n / 2 ^ 1074, M is n with its digits moved up or down until there are 53, and e + 1074 is one less than the count of n's digits.
use Rattle.std.specs.Prelude.{ℕ, ◌-◌, ◌*◌, ◌/◌, ◌^◌, Float}
use Rattle.std.specs.Float.Ieee.{size}
use Rattle.rounding.specs.Units.{units_of}

-- M
unfoldable pub significand_of : Float → ℕ
significand_of x = units_of x * 2 ^ 53 / 2 ^ size (units_of x)

-- e + 1074, which is never negative
unfoldable pub exponent_of : Float → ℕ
exponent_of x = size (units_of x) - 1
