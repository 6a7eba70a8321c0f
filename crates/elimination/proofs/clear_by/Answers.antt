use mathlib.Core.Path.{refl}
use Rattle.elimination.proofs.Lent.{cleared-back}
use Rattle.elimination.proofs.clear_by.Goals as goal

pub returns : goal.returns
returns c =
    let a = c.args in
    cleared-back a.n a.k a.p _ a.work.now _ _ _ _ refl c.divide_row.ensures c.move_part.ensures c.keep_rows.ensures
