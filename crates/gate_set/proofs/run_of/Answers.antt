use Rattle.std.proofs.Common.{sym, ◌∙◌, arith}
use Rattle.lists.proofs.Folding.{fold-none, fold_end, fold_more}
use Rattle.gate_set.specs.GateSet.{through}
use Rattle.gate_set.proofs.Turned.{turned_none, turned_more}
use Rattle.gate_set.proofs.run_of.Goals as goal

pub loop-g-init : goal.loop-g-init
loop-g-init g c = (c.told-xs ∙ sym c.requires.1, λ k h. fold-none _ _)

pub loop-k-init : goal.loop-k-init
loop-k-init g c = turned_none _ _ _

pub pass-requires : goal.pass-requires
pass-requires g c = (c.requires.0, c.requires.2 c.loop-k.k (omega arith) c.loop-g.g-index c.loop-g-test.true)

pub loop-k-preserved : goal.loop-k-preserved
loop-k-preserved g c = turned_more _ _ _ c.loop-k.k c.loop-k.xs _ (omega (arith, c.loop-k.invariant.long)) c.loop-k.invariant c.pass.ensures

pub loop-g-preserved : goal.loop-g-preserved
loop-g-preserved g c = (c.loop-k.invariant.long ∙ c.loop-g.invariant.0, λ k h. fold_more _ _ _ _ _ (c.loop-g.invariant.1 k h) (c.loop-k.invariant.done k (omega arith)))

pub returns : goal.returns
unfolding through
returns g c = λ k h. fold_end _ _ _ _ _ (omega arith) (c.loop-g.invariant.1 k h)
