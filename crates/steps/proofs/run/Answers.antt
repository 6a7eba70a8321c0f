use mathlib.Core.Path.{refl, sym, subst, ◌∙◌}
use native.Mathlib.Omega.{arith}
use lib.ListN.{length}
use Rattle.refusal.proofs.Verdicts.{passed_on}
use Rattle.lists.proofs.Folding.{fold-none, fold_end}
use Rattle.objective.specs.Tasks.{job_in}
use Rattle.steps.specs.Running.{point_of, Normed}
use Rattle.steps.proofs.Runs.{run_more, run-ended, run-refused}
use Rattle.steps.proofs.run.Goals as goal

pub loop-init : goal.loop-init
loop-init c =
    let t = c.args.limited.now.task in
    let r = c.args.start in
    (omega (arith, c.requires.1), omega (arith, c.requires.0), fold-none _ _, subst (Normed (job_in t) (point_of (length t.places.now) r) r.norm) (sym c.requires.2) tt)

pub returns-then-is_some : goal.returns-then-is_some
returns-then-is_some c =
    let l = c.loop in
    let t = c.args.limited.now.task in
    record {
      state = run-ended (job_in t) (length t.places.now) _ l.counter l.r l.invariant.2 t.config.max_iterations (omega arith) (sym c.is_some.ensures ∙ c.if-is_some.true);
      underway = record { steps = omega (arith, l.invariant.0, c.args.limited.now.iterations); evaluations = omega (arith, l.invariant.1, c.args.limited.now.iterations) };
      normed = l.invariant.3;
    }

pub step-requires : goal.step-requires
step-requires c =
    let l = c.loop in
    let k = c.args.limited.now in (
      record { steps = omega (arith, l.invariant.0, k.iterations); evaluations = omega (arith, l.invariant.1, k.iterations) },
      (omega (arith, l.auto.model, c.requires.3.0), omega (arith, l.auto.columns, c.requires.3.1)),
    )

pub returns-in_err-r : goal.returns-in_err-r
returns-in_err-r c =
    let l = c.loop in
    let t = c.args.limited.now.task in
    rw (passed_on c.from_residual.ensures.1 refl) (run-refused (job_in t) (length t.places.now) _ l.counter l.r l.invariant.2 t.config.max_iterations _ (omega arith) (sym c.is_some.ensures ∙ c.if-is_some.false) c.in_err-r.ensures)

pub loop-preserved : goal.loop-preserved
loop-preserved c =
    let l = c.loop in
    let t = c.args.limited.now.task in
    let f = c.in_ok-r.ensures in
    (omega (arith, f.steps, l.invariant.0), omega (arith, f.evaluations, l.invariant.1), run_more (job_in t) (length t.places.now) _ l.counter l.r l.invariant.2 _ (sym c.is_some.ensures ∙ c.if-is_some.false) f.state, f.normed)

pub returns : goal.returns
returns c =
    let l = c.loop in
    let t = c.args.limited.now.task in
    record {
      state = fold_end _ l.counter t.config.max_iterations _ _ (omega arith) l.invariant.2;
      underway = record { steps = omega (arith, l.invariant.0, c.args.limited.now.iterations); evaluations = omega (arith, l.invariant.1, c.args.limited.now.iterations) };
      normed = l.invariant.3;
    }
