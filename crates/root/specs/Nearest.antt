-- IEEE 754's square root: of all numbers the one nearest the real root, and of two as near the one with an even significand.
use Rattle.std.specs.Prelude.{◌≡◌, true, false, ◌+◌, ◌*◌, ◌<◌, T, Float}
use Rattle.std.specs.Float.{binary64}
use Rattle.std.specs.Float.Ieee.{fits}
use Rattle.numbers.specs.Number.{finite, negative}
use Rattle.rounding.specs.Units.{units_in_one, units_of}

-- r is the number nearest the root of x, for a finite x above zero. Counted in units the root is that of `units_of x * units_in_one`.
-- A number y below r is the farther one if the middle of the two, (y + r) / 2, lies below the root, and one above r if it lies above: each is said of squares.
-- Numbers below zero are farther than those of their size above it. Both orders are strict: the root is never in the middle of two numbers, and no tie arises.
pub record Nearest (x r : Float) : Type 0 where
  pub is_finite : finite r ≡ true
  pub is_positive : negative r ≡ false
  pub below : (y : Float) → T (fits binary64 y) → finite y ≡ true → units_of y < units_of r → (units_of y + units_of r) * (units_of y + units_of r) < 4 * (units_of x * units_in_one)
  pub above : (y : Float) → T (fits binary64 y) → finite y ≡ true → units_of r < units_of y → 4 * (units_of x * units_in_one) < (units_of y + units_of r) * (units_of y + units_of r)
