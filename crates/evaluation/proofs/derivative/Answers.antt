use mathlib.Core.Path.{ap}
use mathlib.Core.List.{List}
use lib.Ieee.{Float, of_bits}
use lib.ListN.{set}
use Rattle.numbers.specs.Number.{◌+ᶠ◌, ◌-ᶠ◌, ◌*ᶠ◌}
use Rattle.numbers.specs.Slice.{at}
use Rattle.objective.specs.Tasks.{job_in}
use Rattle.evaluation.proofs.Scores.{first_of_two, second_of_two}
use Rattle.evaluation.proofs.Slopes.{derivative-by}
use Rattle.evaluation.proofs.derivative.Goals as goal

pub returns : goal.returns
unfolding of_bits
returns c =
    let a = c.args in
    let p = c.evaluate_both.ensures in
    let x = at a.xs.now a.i in
    let e = a.t.now.config.finite_difference_step *ᶠ c.max_of.result in
    derivative-by (job_in a.t.now) a.xs.now a.o a.i _ _ _ _ _ _ _ c.abs_of.ensures c.max_of.ensures (ap (λ (l : List Float). set l a.i (x +ᶠ e)) c.copy_from_slice.ensures.after)
    (ap (λ (l : List Float). set l a.i (x -ᶠ e)) c.copy_from_slice-2.ensures.after) (first_of_two _ _ _ _ p) (second_of_two _ _ _ _ p) c.difference.ensures
