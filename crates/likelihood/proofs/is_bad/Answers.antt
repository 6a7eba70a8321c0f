use Rattle.likelihood.specs.Multinomial.{bad_probability}
use Rattle.likelihood.proofs.is_bad.Goals as goal

pub returns : goal.returns
unfolding bad_probability
returns c = rw (← c.is_finite.ensures)
