use mathlib.Core.Path.{refl}
use native.Mathlib.Omega.{arith}
use Rattle.sorting.specs.Sort.{order_by}
use Rattle.sorting.proofs.Arranged.{order_is, order-in, sorted-is}
use Rattle.sorting.proofs.Inserting.{order-more}
use borrow.Author.Rules.{rules}
use Rattle.sorting.proofs.arrange.Goals as goal

pub loop-k-init : goal.loop-k-init
unfolding order_by
loop-k-init c = refl

pub loop-k-preserved : goal.loop-k-preserved
loop-k-preserved c = order-more _ _ _ _ _ c.loop-k.invariant c.insert.ensures

pub gather-requires : goal.gather-requires
gather-requires c = (search rules, order-in _ _ _ _ (omega arith) (search rules) c.loop-k.invariant _ (search rules))

pub returns : goal.returns
returns c =
    let o = c.loop-k.invariant in
    (order_is _ _ _ _ (omega arith) (search rules) o, sorted-is _ _ _ _ (omega arith) (search rules) o _ _ (search rules) c.gather.ensures)
