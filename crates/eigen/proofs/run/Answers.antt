use mathlib.Core.Path.{◌∙◌}
use native.Mathlib.Numerals.{unary_clauses}
use native.Mathlib.Omega.{arith}
use Rattle.entries.specs.Entries.{entries}
use Rattle.eigen.specs.Jacobi.{ran}
use Rattle.eigen.proofs.Running.{run_none, run-done, right-first, place-within, pivot-turned, by-scale}
use Rattle.eigen.proofs.run.Goals as goal

pub loop-init : goal.loop-init
loop-init c = (right-first _ _ _ c.requires.3 c.of-kept.ensures, simp unary_clauses)

pub returns-then-g-limit : goal.returns-then-g-limit
unfolding ran
returns-then-g-limit c =
    let l = c.loop.invariant in
    let h = c.pivot-g.ensures.pivot _ l.0.1 in
    by-scale _ _ _ _ _ _ _ _ c.scale.ensures (run-done _ _ _ _ _ _ _ (omega arith) h c.if-g-limit.true ∙ l.1)

pub step-requires : goal.step-requires
step-requires c =
    let w = place-within c.args.n (entries c.loop.a) _ c.requires.2 (c.pivot-g.ensures.pivot _ c.loop.invariant.0.1) in
    (omega arith, omega arith, c.requires.3, w.0, w.1)

pub loop-preserved : goal.loop-preserved
loop-preserved c =
    let a = c.args in
    let l = c.loop in
    pivot-turned a.r a.n _ a.rotations l.counter (entries l.a) (entries l.v) l.kept.cells _ _ _ _ _ c.requires.2 c.requires.3 l.invariant.0 (c.pivot-g.ensures.pivot _ l.invariant.0.1) c.loop-test.true c.if-g-limit.false c.step.ensures l.invariant.1

pub returns : goal.returns
unfolding ran
returns c = by-scale _ _ _ _ _ _ _ _ c.scale.ensures (run_none _ _ _ _ _ _ (omega arith) ∙ c.loop.invariant.1)
