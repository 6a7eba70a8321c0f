use Rattle.std.proofs.Common.{sym, ◌∙◌}
use Rattle.tomography.proofs.Cards.{shape}
use Rattle.tomography.proofs.run.Goals as goal

pub invariant_of-accepted : goal.invariant_of-accepted
invariant_of-accepted c = record { shaped = shape _ _ (sym c.read.ensures ∙ c.in_ok-header.was) }
