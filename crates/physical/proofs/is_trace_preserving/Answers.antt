use Rattle.physical.proofs.Units.{row-steps}
use mathlib.Core.Path.{◌∙◌}
use Rattle.physical.proofs.is_trace_preserving.Goals as goal

pub returns : goal.returns
returns c = c.is_near_unit.ensures ∙ row-steps _ _ _
