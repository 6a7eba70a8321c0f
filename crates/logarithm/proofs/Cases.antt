-- The cases of a logarithm. Assumes nothing.
use Rattle.std.proofs.Common.{◌≡◌, ℕ, true, false, refl}
use lib.Ieee.{Float, nan, inf, lt, of_bits}
use Rattle.numbers.specs.Number.{finite}
use Rattle.numbers.proofs.Leaves.{nought}
use Rattle.significand.specs.Significand.{significand_of, exponent_of}
use Rattle.logarithm.specs.Steps.{ln_of, ln_by}

module _ (q r : ℕ → Float) where
  pub of-infinity : (x : Float) → x ≡ inf false → x ≡ ln_by q r x
  unfolding ln_by lt finite of_bits
  of-infinity x e = rw e refl

  pub of-finite : (x : Float) → lt nought x ≡ true → finite x ≡ true → ln_by q r x ≡ ln_of q r (significand_of x) (exponent_of x)
  unfolding ln_by of_bits
  of-finite x l h = rw (l, h)

  pub of_other : (x : Float) → lt nought x ≡ false → nan ≡ ln_by q r x
  unfolding ln_by of_bits
  of_other x l = rw l
