use mathlib.Core.Path.{refl}
use Rattle.refusal.proofs.Verdicts.{passed_on}
use Rattle.objective.specs.Tasks.{job_in}
use Rattle.steps.proofs.Stepping.{unsloped}
use Rattle.steps.proofs.step.Goals as goal

pub returns-in_err-z : goal.returns-in_err-z
returns-in_err-z c = rw (passed_on c.from_residual.ensures.1 refl) (unsloped (job_in c.args.limited.now.task) c.args.r.now _ c.in_err-z.ensures.0)
