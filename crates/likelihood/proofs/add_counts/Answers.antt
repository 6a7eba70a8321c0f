use Rattle.std.proofs.Common.{arith}
use Rattle.lists.proofs.Folding.{fold-none, fold_more}
use Rattle.likelihood.proofs.Counts.{too_many, counted}
use Rattle.likelihood.proofs.add_counts.Goals as goal

pub loop-c-init : goal.loop-c-init
loop-c-init c = (fold-none _ _, omega arith)

pub returns-in_err-t : goal.returns-in_err-t
returns-in_err-t c = rw c.from_residual.ensures (too_many _ _ _ (omega arith) c.loop-c.invariant.0 c.in_err-t.ensures)

pub loop-c-preserved : goal.loop-c-preserved
loop-c-preserved c = let e = c.in_ok-t.ensures in (fold_more _ _ _ _ _ c.loop-c.invariant.0 e.1, omega (arith, e))

pub returns : goal.returns
returns c = counted _ _ _ (omega arith) c.loop-c.invariant.0 c.loop-c.invariant.1
