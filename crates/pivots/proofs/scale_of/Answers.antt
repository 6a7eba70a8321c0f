use mathlib.Core.Path.{refl}
use Rattle.lists.proofs.Parts.{row_fits}
use Rattle.pivots.proofs.Scales.{scale-none, row-joined}
use Rattle.pivots.proofs.scale_of.Goals as goal

pub loop-i-init : goal.loop-i-init
loop-i-init c = scale-none _ _

pub loop-i-preserved : goal.loop-i-preserved
loop-i-preserved c =
    let a = c.args in
    let l = c.loop-i in
    row-joined a.n l.i _ a.a.now l.s _ _ refl (row_fits l.i a.n a.n _ c.loop-i-test.true c.requires.1) l.invariant c.row_scale.ensures c.larger-s.ensures
