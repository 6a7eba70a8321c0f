use Rattle.std.proofs.Common.{arith}
use Rattle.gate_set.proofs.Turned.{turned_more}
use Rattle.diagnostics.proofs.refuse_all.Goals as goal

pub loop-l-preserved : goal.loop-l-preserved
loop-l-preserved g c = turned_more _ _ _ c.loop-l.l-index c.loop-l.sums _ (omega (arith, c.loop-l.invariant.long)) c.loop-l.invariant c.refuse.ensures

pub returns : goal.returns
returns g c = (c.loop-l.invariant.long, λ k h. c.loop-l.invariant.done k (omega arith))
