-- The code's constants, by their bits, are the whole numbers and inverses of the definition. Assumes nothing.
use Rattle.std.proofs.Common.{◌≡◌, ℕ, ◌^◌, refl}
use lib.Ieee.{Float, binary64, of_bits, of_int, div}
use Rattle.rounding.specs.Units.{whole}
use Rattle.logarithm.specs.Steps.{inverse}

abbrev Bits : ℕ → Float → Type 0
Bits w x = of_bits binary64 w ≡ x

pub record Constants : Type 0 where
  pub one : Bits 0x3ff0000000000000 (whole 1)
  pub three : Bits 0x4008000000000000 (whole 3)
  pub five : Bits 0x4014000000000000 (whole 5)
  pub six : Bits 0x4018000000000000 (whole 6)
  pub half : Bits 0x3fe0000000000000 (inverse 2)
  pub quarter : Bits 0x3fd0000000000000 (inverse 4)
  pub least : Bits 0x4090c80000000000 (whole 1074)
  pub two43 : Bits 0x42a0000000000000 (whole (2 ^ 43))
  pub two44 : Bits 0x42b0000000000000 (whole (2 ^ 44))
  pub two70 : Bits 0x4450000000000000 (whole (2 ^ 70))

pub constants : Constants
unfolding of_bits of_int div
constants = record { one = refl; three = refl; five = refl; six = refl; half = refl; quarter = refl; least = refl; two43 = refl; two44 = refl; two70 = refl }
