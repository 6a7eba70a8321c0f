use native.Mathlib.Omega.{arith}
use Rattle.lists.proofs.Filling.{fill_none, fill_more}
use Rattle.diagnostics.proofs.Loading.{counts-all}
use Rattle.diagnostics.proofs.load_counts.Goals as goal

pub loop-k-init : goal.loop-k-init
loop-k-init c = fill_none _ _

pub loop-k-preserved : goal.loop-k-preserved
loop-k-preserved c = fill_more _ _ _ _ _ (omega arith) c.loop-k.invariant c.count_in.ensures

pub returns : goal.returns
returns c = counts-all c.args.card.now.bytes.now c.args.card.now.header c.args.r c.args.out.now c.loop-k.out c.loop-k.k (omega arith) c.requires.1 c.loop-k.invariant
