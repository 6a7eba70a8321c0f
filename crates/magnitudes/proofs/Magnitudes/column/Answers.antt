use mathlib.Core.Path.{◌∙◌, ap}
use native.Mathlib.Omega.{arith}
use lib.ListN.{length-take}
use lib.Ieee.{Float}
use Rattle.lists.proofs.Folding.{fold_more}
use Rattle.magnitudes.specs.Pivot.{larger}
use Rattle.magnitudes.proofs.Loops.{column-item}
use Rattle.magnitudes.proofs.Magnitudes.column.Goals as goal

pub loop-c-preserved : goal.loop-c-preserved
loop-c-preserved c =
    let k = c.loop-c.c in
    fold_more _ _ _ _ _ c.loop-c.invariant
    (c.or-g.ensures ∙ ap (λ (x : Float). larger x k 0 c.loop-c.g) (column-item c.args.n k c.args.self.now.cells c.columns-columns.result c.requires (omega (arith, c.loop-c-test.true, length-take c.args.n c.columns-columns.result)) c.columns-columns.ensures))
