use mathlib.Core.Path.{refl, ◌∙◌}
use native.Mathlib.Omega.{arith}
use lib.ListN.{length}
use Rattle.refusal.proofs.Verdicts.{passed_on}
use Rattle.descent.specs.Fit.{derivative, gradient}
use Rattle.objective.specs.Tasks.{job_in}
use Rattle.evaluation.proofs.Slopes.{slopes-none, slopes-more, slopes-stop, slopes-all}
use Rattle.evaluation.proofs.gradient.Goals as goal

pub loop-i-init : goal.loop-i-init
loop-i-init c = (slopes-none _ c.args.g.now, refl, refl)

pub returns-in_err-slope : goal.returns-in_err-slope
unfolding gradient
returns-in_err-slope c =
    let a = c.args in
    rw (passed_on c.from_residual.ensures.1 refl) (slopes-stop (derivative (job_in a.t.now) a.xs.now a.o) c.loop-i.i (length a.t.now.places.now) c.loop-i.g _ _ c.loop-i.invariant.0 c.in_err-slope.ensures refl (omega arith))

pub loop-i-preserved : goal.loop-i-preserved
loop-i-preserved c =
    let a = c.args in
    (slopes-more (derivative (job_in a.t.now) a.xs.now a.o) c.loop-i.i c.loop-i.g _ _ c.loop-i.invariant.0 c.in_ok-slope.ensures refl (omega arith), c.derivative.auto.model ∙ c.loop-i.invariant.1, c.derivative.auto.columns ∙ c.loop-i.invariant.2)

pub returns : goal.returns
unfolding gradient
returns c =
    let a = c.args in
    slopes-all (derivative (job_in a.t.now) a.xs.now a.o) c.loop-i.i (length a.t.now.places.now) c.loop-i.g c.loop-i.invariant.0 (omega arith) (omega arith)
