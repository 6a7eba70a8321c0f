use Rattle.physical.proofs.Units.{column-steps}
use mathlib.Core.Path.{◌∙◌}
use Rattle.physical.proofs.is_unital.Goals as goal

pub returns : goal.returns
returns c = c.is_near_unit.ensures ∙ column-steps _ _ _
