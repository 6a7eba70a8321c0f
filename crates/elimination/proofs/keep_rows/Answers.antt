use Prim.Native.Nat.{◌*◌, ◌+◌}
use Rattle.lists.proofs.Folding.{fold-none, fold_more}
use Rattle.elimination.specs.Kept.{kept_row}
use Rattle.elimination.proofs.Lent.{row-put}
use borrow.Author.Rules.{rules}
use Rattle.elimination.proofs.keep_rows.Goals as goal

pub loop-i-init : goal.loop-i-init
loop-i-init c = (search rules, fold-none _ _)

pub loop-i-preserved : goal.loop-i-preserved
loop-i-preserved c =
    let a = c.args in
    let l = c.loop-i in
    (search rules, fold_more _ _ _ _ _ l.invariant.1 (row-put l.i _ _ (2 * a.n + 2) (kept_row a.n a.k a.pivot.now l.i) l.work _ c.row.ensures c.keep_row.ensures))
