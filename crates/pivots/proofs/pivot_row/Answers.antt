use Prim.Native.Nat.{◌+◌}
use native.Mathlib.Omega.{arith}
use Rattle.lists.proofs.Folding.{fold-none, fold_more, fold_end}
use Rattle.pivots.specs.Pivots.{pivot_row}
use Rattle.pivots.proofs.Picked.{row-picked, size-picked, either-below}
use borrow.Author.Rules.{rules}
use Rattle.pivots.proofs.pivot_row.Goals as goal

pub loop-t-init : goal.loop-t-init
loop-t-init c = (search rules, search rules, c.size_at-size.ensures, fold-none _ _)

pub loop-t-preserved : goal.loop-t-preserved
loop-t-preserved c =
    let a = c.args in
    let l = c.loop-t in
    let size-at2 = c.size_at-x.ensures in
    let stays-largest = c.stays_largest-keep in
    let h = c.chosen-p.ensures in
    (search rules, either-below _ l.p (a.k + l.t) stays-largest.result _ l.invariant.1 (omega arith) h, size-picked a.w a.k a.work.now l.p (a.k + l.t) _ _ stays-largest.result _ _ l.invariant.2 size-at2 h c.chosen-size.ensures, fold_more _ _ _ _ _ l.invariant.3 (row-picked a.w a.k a.work.now l.p (a.k + l.t) _ _ stays-largest.result _ l.invariant.2 size-at2 stays-largest.ensures h))

pub returns : goal.returns
unfolding pivot_row
returns c = (fold_end _ _ _ _ _ (omega arith) c.loop-t.invariant.3, c.loop-t.invariant.1)
