use mathlib.Core.List.{[]}
use mathlib.Core.Path.{refl, ap}
use Rattle.std.proofs.Common.{is_ok}
use Rattle.std.proofs.lemmas.Result.{err_from_is_err_and}
use Rattle.eigen.proofs.Running.{values-are, values-not, no-entries}
use Rattle.eigen.proofs.eigenvalues.Goals as goal

pub returns-in_err-run : goal.returns-in_err-run
returns-in_err-run c =
    let q = err_from_is_err_and c.from_residual.result c.from_residual.ensures.1 in
    rw q.1 (values-not _ _ _ _ _ _ _ _ _ (no-entries [] refl) (ap is_ok c.in_err-run.was) c.run.ensures)

pub returns : goal.returns
returns c = values-are _ _ _ _ _ _ _ _ _ (no-entries [] refl) (ap is_ok c.in_ok-run.was) c.run.ensures c.ascend.ensures.1
