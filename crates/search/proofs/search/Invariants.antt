use mathlib.Core.Path.{◌≡◌}
use Rattle.std.proofs.Common.{Ok, None}
use lib.ListN.{length}
use Rattle.descent.specs.Fit.{step_length, search_to}
use Rattle.objective.specs.Tasks.{job_in}
use Rattle.search.proofs.search.Given as goal

abbrev pub invariant-loop-k : goal.invariant-loop-k
invariant-loop-k l = (length l.t ≡ length l.initial.t) × (l.s ≡ step_length (job_in l.task) l.k) × (search_to (job_in l.task) l.xs l.g l.o l.k ≡ Ok None) × (length l.model ≡ length l.initial.model) × (length l.columns ≡ length l.initial.columns)
