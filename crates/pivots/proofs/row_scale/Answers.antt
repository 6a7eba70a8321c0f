use native.Mathlib.Omega.{arith}
use lib.Ieee.{of_bits}
use Rattle.lists.proofs.Folding.{fold-none, fold_more, fold_end}
use Rattle.numbers.specs.Slice.{at}
use Rattle.pivots.specs.Pivots.{scale_of}
use Rattle.pivots.proofs.Sizes.{next-scale}
use Rattle.pivots.proofs.row_scale.Goals as goal

pub loop-x-init : goal.loop-x-init
unfolding of_bits
loop-x-init c = (fold-none _ _, tt)

pub loop-x-preserved : goal.loop-x-preserved
loop-x-preserved c =
    let l = c.loop-x in
    let e = next-scale l.s (at c.args.row.now l.x-index) _ _ l.invariant.1 c.size_of.ensures c.larger-s.ensures in
    (fold_more _ _ _ _ _ l.invariant.0 e.0, e.1)

pub returns : goal.returns
unfolding scale_of
returns c = fold_end _ _ _ _ _ (omega arith) c.loop-x.invariant.0
