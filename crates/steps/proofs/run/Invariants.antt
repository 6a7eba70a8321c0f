use Prim.Native.Nat.{◌+◌, ◌*◌, ◌≤◌}
use mathlib.Core.Path.{◌≡◌}
use lib.ListN.{length}
use Rattle.lists.specs.Fold.{fold}
use Rattle.descent.specs.Fit.{next}
use Rattle.objective.specs.Tasks.{job_in}
use Rattle.steps.specs.Running.{point_of, state_of, Normed}
use Rattle.steps.proofs.run.Given as goal

abbrev pub invariant-loop : goal.invariant-loop
invariant-loop l =
    (l.r.steps ≤ l.counter) × (l.r.evaluations ≤ 1 + 383 * l.counter)
    × (state_of (length l.limited.task.places.now) l.r ≡ fold l.counter (λ _ s. next (job_in l.limited.task) s) (state_of (length l.limited.task.places.now) l.initial.r)) × Normed (job_in l.limited.task) (point_of (length l.limited.task.places.now) l.r) l.r.norm l.r.stop
