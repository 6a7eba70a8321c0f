use Rattle.std.proofs.Common.{◌≡◌, Ok, List, length, drop, sym, subst, ◌∙◌, Float}
use lib.Seq.{take_at, drop_at, length-take-le}
use Rattle.objective.specs.Tasks.{job_in}
use Rattle.steps.specs.Running.{point_of, Sloped}
use Rattle.steps.proofs.Stepping.{sloped}
use Rattle.steps.proofs.slope_at.Goals as goal

pub returns : goal.returns
returns c =
    let t = c.args.task.now in
    let n = length t.places.now in
    let p = point_of n c.args.r.now in
    let y = c.gradient.new.g in
    let rest = drop n c.args.g.now in
    let e : length y ≡ n = c.gradient.auto.g ∙ length-take-le _ _ c.requires.0 in
    (subst (λ (l : List Float). Sloped (job_in t) p l (Ok c.norm.result)) (sym (take_at y rest n e)) (sloped (job_in t) p y _ c.in_ok-gradient.ensures e c.norm.ensures), drop_at y rest n e)
