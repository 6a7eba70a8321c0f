-- The term of one outcome, as the code makes it. Assumes nothing.
use Rattle.std.proofs.Common.{◌≡◌, Bool, true, false, refl}
use lib.Ieee.{Float, of_bits, of_int}
use Rattle.numbers.specs.Number.{two_f, ◌+ᶠ◌, ◌*ᶠ◌, ◌/ᶠ◌}
use Rattle.rounding.specs.Units.{whole}
use Rattle.likelihood.specs.declared.Diagnostics.{Diagnostics}
use Rattle.likelihood.specs.Multinomial.{plus_term}

two : two_f ≡ whole 2
unfolding of_bits of_int
two = refl

-- l is the logarithm of the probability, and m that of the ratio of frequency and probability
module _ (log : Float → Float) (t c p l : Float) (d : Diagnostics) (likely : l ≡ log p) where
  pub with-deviance : (m : Float) (b : Bool) → b ≡ true → m ≡ log (c /ᶠ (t *ᶠ p))
      → record { log_likelihood = d.log_likelihood +ᶠ c *ᶠ l; deviance = d.deviance +ᶠ two_f *ᶠ c *ᶠ m } ≡ plus_term log b t c p d
  unfolding plus_term
  with-deviance m b h e = rw (h, likely, e, two)

  pub without-deviance : (b : Bool) → b ≡ false → record { log_likelihood = d.log_likelihood +ᶠ c *ᶠ l; deviance = d.deviance } ≡ plus_term log b t c p d
  unfolding plus_term
  without-deviance b h = rw (h, likely)
