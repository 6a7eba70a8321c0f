use Rattle.std.proofs.Common.{sym, arith}
use Rattle.refusal.proofs.Verdicts.{passed_on, tested-none, tested-more, tested-ends, tested-all}
use Rattle.parameters.specs.Parameters.{parameters_verdict}
use Rattle.parameters.proofs.check_parameters.Goals as goal

pub loop-i-init : goal.loop-i-init
loop-i-init c = tested-none _

pub returns-in_err-check_parameter : goal.returns-in_err-check_parameter
unfolding parameters_verdict
returns-in_err-check_parameter c = passed_on c.from_residual.ensures.1 (sym (tested-ends _ _ c.loop-i.i _ (omega arith) c.loop-i.invariant (sym c.in_err-check_parameter.ensures)))

pub loop-i-preserved : goal.loop-i-preserved
loop-i-preserved c = tested-more _ _ c.loop-i.invariant (sym c.in_ok-check_parameter.ensures)

pub returns : goal.returns
unfolding parameters_verdict
returns c = tested-all _ _ _ (omega arith) c.loop-i.invariant
