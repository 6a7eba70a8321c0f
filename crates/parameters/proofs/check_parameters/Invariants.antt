use Rattle.std.proofs.Common.{◌≡◌}
use Rattle.refusal.specs.Verdicts.{good}
use Rattle.refusal.proofs.Verdicts.{tested}
use Rattle.parameters.specs.Parameters.{parameter_verdict}
use Rattle.parameters.proofs.check_parameters.Given as goal

abbrev pub invariant-loop-i : goal.invariant-loop-i
invariant-loop-i l = tested (parameter_verdict l.card.bytes.now l.card.header) l.i ≡ good
