use mathlib.Core.Path.{◌≡◌}
use lib.ListN.{length, take}
use Rattle.descent.specs.Fit.{slopes, derivative}
use Rattle.objective.specs.Tasks.{job_in}
use Rattle.evaluation.proofs.Slopes.{slopes_to}
use Rattle.evaluation.proofs.gradient.Given as goal

abbrev pub invariant-loop-i : goal.invariant-loop-i
invariant-loop-i l = (slopes_to (derivative (job_in l.t) l.xs l.o) l.i ≡ slopes (take l.i l.g)) × (length l.model ≡ length l.initial.model) × (length l.columns ≡ length l.initial.columns)
