use Rattle.std.proofs.Common.{arith}
use Rattle.gate_set.proofs.Turned.{turned_more}
use Rattle.diagnostics.proofs.weigh_all.Goals as goal

pub loop-k-preserved : goal.loop-k-preserved
loop-k-preserved g c = turned_more _ _ _ c.loop-k.k c.loop-k.sums _ (omega (arith, c.loop-k.invariant.long)) c.loop-k.invariant c.weigh.ensures

pub returns : goal.returns
returns g c = (c.loop-k.invariant.long, λ k h. c.loop-k.invariant.done k (omega arith))
