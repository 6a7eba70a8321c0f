use mathlib.Core.Path.{◌∙◌}
use native.Mathlib.Omega.{arith}
use Rattle.filling.proofs.Counting.{counted_none, counted-more, counted-all}
use Rattle.filling.proofs.active_count.Goals as goal
use Rattle.filling.proofs.active_count.Goals.{then-excess-x, else-excess-x}

pub loop-i-init : goal.loop-i-init
loop-i-init c = counted_none _

pub loop-i-preserved : goal.loop-i-preserved
loop-i-preserved c =
    counted-more _ _ _ _ _ c.loop-i.invariant
    (elim c.if-excess-x.branch [
      | then-excess-x w ↦ w.active-is ∙ rw (← c.excess.ensures, w.if-excess-x.true)
      | else-excess-x w ↦ w.active-is ∙ rw (← c.excess.ensures, w.if-excess-x.false)
    ])

pub returns : goal.returns
returns c = let k = c.loop-i.invariant in (counted-all _ _ _ _ (omega arith) k, omega (arith, k.most))
