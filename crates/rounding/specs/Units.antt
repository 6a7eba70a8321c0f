-- Numbers (IEEE 754's binary64) counted in units of 2 ^ -1074, the least of them above zero: each finite number is a whole number of units.
use Rattle.std.specs.Prelude.{ℕ, ◌*◌, ◌/◌, ◌^◌, pos, Float}
use Rattle.std.specs.Float.{nan, inf, fin, binary64}
use Rattle.std.specs.Float.Ieee.{up, down, of_int}

-- the units in 1
abbrev pub units_in_one : ℕ
units_in_one = 2 ^ 1074

-- the size of a finite number
unfoldable pub units_of : Float → ℕ
units_of nan = 0
units_of (inf s) = 0
units_of (fin s m e) = m * up e * units_in_one / down e

-- a whole number as a number, rounded to nearest
abbrev pub whole : ℕ → Float
whole n = of_int binary64 (pos n)
