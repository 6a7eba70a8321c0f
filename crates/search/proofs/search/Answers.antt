use mathlib.Core.Path.{refl, ap, ◌∙◌}
use Rattle.std.proofs.Common.{Ok, Option}
use native.Mathlib.Omega.{arith}
use lib.Ieee.{Float, of_bits}
use Rattle.refusal.proofs.Verdicts.{passed_on}
use Rattle.objective.specs.Tasks.{job_in}
use Rattle.search.proofs.Trials.{length-first, length-halved, trial-by, search-none, search-found, search-lost, search-passed, search-on, search-all}
use Rattle.search.proofs.search.Goals.{in-Some+else-v-o, in_default}
use Rattle.search.proofs.search.Goals as goal

pub loop-k-init : goal.loop-k-init
loop-k-init c =
    let a = c.args in
    let J = job_in a.task.now in
    (refl, length-first J, search-none J a.xs.now a.g.now a.o, refl, refl)

pub returns-in_err-v : goal.returns-in_err-v
returns-in_err-v c =
    let a = c.args in
    let l = c.loop-k in
    let J = job_in a.task.now in
    let t = trial-by J a.xs.now a.g.now l.k _ l.s _ (omega arith) l.invariant.1 c.trial.ensures in
    rw (passed_on c.from_residual.ensures.1 refl) (search-lost J a.xs.now a.g.now a.o l.k _ _ l.invariant.2 t refl a.task.now.config.max_backtracks c.loop-k-test.true _ c.in_err-v.ensures, tt)

pub returns-then-v-o : goal.returns-then-v-o
returns-then-v-o c =
    let a = c.args in
    let l = c.loop-k in
    let J = job_in a.task.now in
    let t = trial-by J a.xs.now a.g.now l.k _ l.s _ (omega arith) l.invariant.1 c.trial.ensures in
    (search-found J a.xs.now a.g.now a.o l.k _ _ l.invariant.2 t c.in_ok-v.ensures a.task.now.config.max_backtracks c.loop-k-test.true _ (ap (λ (x : Option Float). Ok x) c.in-Some.is) c.if-v-o.true, (t, c.loop-k-test.true))

pub loop-k-preserved : goal.loop-k-preserved
unfolding of_bits
loop-k-preserved c =
    let a = c.args in
    let l = c.loop-k in
    let J = job_in a.task.now in
    let t = trial-by J a.xs.now a.g.now l.k _ l.s _ (omega arith) l.invariant.1 c.trial.ensures in (
      c.trial.auto.t ∙ l.invariant.0,
      length-halved J l.k l.s l.invariant.1,
      elim c.match-branch-2.branch [
        | in-Some+else-v-o w ↦ search-on J a.xs.now a.g.now a.o l.k _ _ l.invariant.2 t c.in_ok-v.ensures _ (ap (λ (x : Option Float). Ok x) w.in-Some.is) w.if-v-o.false
        | in_default w ↦ search-passed J a.xs.now a.g.now a.o l.k _ _ l.invariant.2 t c.in_ok-v.ensures (ap (λ (x : Option Float). Ok x) w.in_default.is)
      ],
      c.evaluate.auto.model ∙ l.invariant.3,
      c.evaluate.auto.columns ∙ l.invariant.4,
    )

pub returns : goal.returns
returns c =
    let l = c.loop-k in
    let a = c.args in
    (search-all (job_in a.task.now) a.xs.now a.g.now a.o l.k a.task.now.config.max_backtracks (omega arith) l.invariant.2, tt)
