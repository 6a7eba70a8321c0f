use mathlib.Core.Path.{◌≡◌, sym, ap, ◌∙◌}
use borrow.Author.Rules.{rules}
use Rattle.std.proofs.Common.{is_ok}
use Rattle.refusal.specs.declared.Refusal.TheVariants.{EigensolverDidNotConverge}
use Rattle.refusal.proofs.Verdicts.{passed_on}
use Rattle.positivity.proofs.Found.{values-known, values-unknown}
use Rattle.positivity.proofs.test_matrix.Goals as goal

pub returns-in_err-map_err : goal.returns-in_err-map_err
returns-in_err-map_err c =
    let e : c.in_err-map_err.field-0.0 ≡ EigensolverDidNotConverge = search rules in
    passed_on c.from_residual.ensures.1 (rw e (values-unknown _ _ _ _ c.eigenvalues.ensures (sym c.map_err.ensures.variant ∙ ap is_ok c.in_err-map_err.was)))

pub returns : goal.returns
returns c = values-known _ _ _ _ _ c.eigenvalues.ensures (sym c.map_err.ensures.variant ∙ ap is_ok c.in_ok-map_err.was) c.none_below.ensures
