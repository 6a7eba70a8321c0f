use Rattle.numbers.specs.Number.{positive}
use Rattle.numbers.proofs.Leaves.{finite_std}
use Rattle.numbers.proofs.is_positive.Goals as goal

pub returns : goal.returns
unfolding positive
returns c = rw (c.is_finite.ensures.value, finite_std)
