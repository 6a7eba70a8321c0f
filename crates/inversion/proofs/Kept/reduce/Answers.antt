use Prim.Native.Nat.{◌+◌}
use mathlib.Core.Path.{refl}
use native.Mathlib.Omega.{arith}
use Rattle.std.proofs.lemmas.Result.{err_from_is_err_and}
use Rattle.inversion.proofs.Reductions.{stands-first, stands-next, ended-last}
use Rattle.inversion.proofs.Kept.reduce.Goals as goal

pub loop-k-init : goal.loop-k-init
loop-k-init c = (refl, stands-first _ _ _ _ _ _ c.args.self.now.placed c.number_places.ensures c.start_rows.ensures)

pub loop-k-preserved : goal.loop-k-preserved
loop-k-preserved c =
    let e = c.in_ok-reduce_column.ensures _ _ c.loop-k.invariant in
    (e.0, stands-next _ _ _ _ _ _ _ e.1)

pub returns-in_err-reduce_column : goal.returns-in_err-reduce_column
returns-in_err-reduce_column c =
    let e = c.in_err-reduce_column.ensures _ _ c.loop-k.invariant in
    let q = err_from_is_err_and c.from_residual.result c.from_residual.ensures.1 in
    rw q.1 (e.0, ended-last _ _ _ (c.loop-k.k + 1) _ _ (omega arith) (stands-next _ _ _ _ _ _ _ e.1))
