use Rattle.inversion.proofs.Reductions.{ends-here, goes_on}
use Rattle.inversion.proofs.Kept.reduce_column.Goals as goal

pub returns-then-size_at-limit : goal.returns-then-size_at-limit
returns-then-size_at-limit c =
    let pivot-row = c.pivot_row-p.ensures in
    let a = c.args in
    let k = a.self.now in
    let r = ends-here k.n a.limit a.k k.places.now k.rows.now _ _ c.requires pivot-row.1 pivot-row.0 c.size_at.ensures c.if-size_at-limit.true in
    λ n s h. (h.0, (rw h.0 at r) s h.1)

pub returns : goal.returns
returns c =
    let pivot-row = c.pivot_row-p.ensures in
    let a = c.args in
    let k = a.self.now in
    let r = goes_on k.n a.limit a.k k.places.now k.rows.now _ _ c.requires pivot-row.1 pivot-row.0 c.size_at.ensures _ _ c.if-size_at-limit.false k.placed c.clear_column.ensures c.relabel.ensures in
    λ n s h. (h.0, (rw h.0 at r) s h.1)
