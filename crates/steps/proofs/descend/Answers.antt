use mathlib.Core.Path.{refl, ap}
use Rattle.std.proofs.Common.{Ok, Option}
use Rattle.refusal.proofs.Verdicts.{passed_on}
use Rattle.descent.specs.declared.Accepted.{Accepted}
use Rattle.objective.specs.Tasks.{job_in}
use Rattle.steps.proofs.Stepping.{level, stalled, lost, accepted}
use Rattle.steps.proofs.descend.Goals as goal

pub returns-then-z-c : goal.returns-then-z-c
returns-then-z-c c =
    let t = c.args.limited.now.task in
    level (job_in t) c.args.r.now c.args.g.now _ c.requires.2 t.placed.few c.args.limited.now.backtracks _ c.if-z-c.true c.stopped.ensures

pub returns-in_err-found : goal.returns-in_err-found
returns-in_err-found c =
    let t = c.args.limited.now.task in
    rw (passed_on c.from_residual.ensures.1 refl) (lost (job_in t) c.args.r.now c.args.g.now _ c.requires.2 t.placed.few c.args.limited.now.backtracks c.if-z-c.false _ c.in_err-found.ensures.0 _ refl)

pub returns-in-None : goal.returns-in-None
returns-in-None c =
    let t = c.args.limited.now.task in
    stalled (job_in t) c.args.r.now c.args.g.now _ c.requires.2 t.placed.few c.args.limited.now.backtracks c.if-z-c.false _ c.in_ok-found.ensures.0 _ (ap (λ (x : Option Accepted). Ok x) c.in-None.is) c.stopped-in-None.ensures

pub returns-in-Some : goal.returns-in-Some
returns-in-Some c =
    let t = c.args.limited.now.task in
    let a = c.in-Some.a in
    accepted (job_in t) c.args.r.now c.args.g.now _ c.requires.2 t.placed.few c.args.limited.now.backtracks c.if-z-c.false _ c.in_ok-found.ensures.0 _ c.search.new.t _ a.trial a.objective c.in_ok-found.ensures.1 (ap (λ (x : Option Accepted). Ok x) c.in-Some.is) c.moved.ensures
