use Rattle.numbers.proofs.Leaves.{finite_std}
use mathlib.Core.Path.{◌∙◌}
use Rattle.numbers.proofs.is_finite.Goals as goal

pub returns : goal.returns
returns c = c.is_finite.ensures.value ∙ finite_std _
