use mathlib.Core.List.{List}
use mathlib.Core.Path.{◌∙◌, ap}
use Prim.Native.Nat.{ℕ}
use native.Mathlib.Omega.{arith}
use Rattle.std.proofs.Common.{is_ok}
use Rattle.std.proofs.lemmas.Grind.{common_steps}
use Rattle.std.proofs.lemmas.Result.{err_from_is_err_and}
use Rattle.entries.specs.Entries.{entries}
use Rattle.eigen.specs.Jacobi.{columns_in}
use Rattle.eigen.proofs.Running.{order-under, spectrum-is, spectrum-not}
use Rattle.eigen.proofs.eigen.Goals as goal

pub columns-requires : goal.columns-requires
columns-requires c =
    (grind (arith, common_steps), grind (arith, common_steps), grind (arith, common_steps), order-under _ _ _ c.ascend.ensures.0)

pub returns-in_err-run : goal.returns-in_err-run
returns-in_err-run c =
    let q = err_from_is_err_and c.from_residual.result c.from_residual.ensures.1 in
    rw q.1 (spectrum-not _ _ _ _ _ _ _ _ _ _ c.unit.ensures (ap is_ok c.in_err-run.was) c.run.ensures)

pub returns : goal.returns
returns c =
    let run = c.run in
    let s = c.ascend.ensures in
    spectrum-is _ _ _ _ _ _ _ _ _ _ c.unit.ensures (ap is_ok c.in_ok-run.was) run.ensures s.1 (c.columns.ensures ∙ ap (λ (o : List ℕ). columns_in o c.args.n (entries run.new.v)) s.0)
