use mathlib.Core.Path.{refl}
use native.Mathlib.Omega.{arith}
use lib.Ieee.{of_bits}
use Rattle.lists.proofs.Filling.{fill_none, fill_more, fill-all}
use Rattle.elimination.proofs.Lent.{divided-back}
use Rattle.elimination.proofs.divide_row.Goals as goal

pub loop-j-init : goal.loop-j-init
loop-j-init c = fill_none _ _

pub loop-j-preserved : goal.loop-j-preserved
loop-j-preserved c = fill_more _ _ _ _ _ (omega arith) c.loop-j.invariant refl

pub returns : goal.returns
unfolding of_bits
returns c =
    let a = c.args in
    divided-back a.n _ a.row.now _ c.requires.1 (fill-all _ _ _ _ (omega arith) c.loop-j.invariant)
