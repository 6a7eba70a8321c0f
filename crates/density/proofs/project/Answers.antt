use mathlib.Core.Path.{◌≡◌, refl, sym, ◌∙◌, ap}
use mathlib.Core.List.{List, ◌++◌}
use lib.ListN.{length, drop}
use Prim.Native.Nat.{◌*◌}
use lib.Seq.{length-take-le}
use lib.Ieee.{Float}
use borrow.Author.Rules.{rules}
use native.Mathlib.Omega.{arith}
use Rattle.std.proofs.lemmas.List.{length-replicate}
use Rattle.std.proofs.Common.{is_ok}
use Rattle.std.proofs.lemmas.Result.{err_from_is_err_and}
use Rattle.refusal.specs.declared.Refusal.TheVariants.{EigensolverDidNotConverge}
use Rattle.density.proofs.Outcome.{used-up, found, written}
use Rattle.density.proofs.project.Goals as goal

pub returns-in_err-map_err : goal.returns-in_err-map_err
returns-in_err-map_err g c =
    let q = err_from_is_err_and c.from_residual.result c.from_residual.ensures.1 in
    let h : c.in_err-map_err.field-0.0 ≡ EigensolverDidNotConverge = search rules in
    rw (q.1, q.2, h) ((used-up _ _ _ _ _ _ _ c.halve.ensures c.eigen.ensures c.args.out.now (sym c.map_err.ensures.variant ∙ ap is_ok c.in_err-map_err.was)).0, refl)

-- the refusal stands in both parts of the promise, and in the second not as a side of an equation: so here no `passed_on`
pub returns-in_err-finite_or : goal.returns-in_err-finite_or
returns-in_err-finite_or g c =
    let q = err_from_is_err_and c.from_residual-in_err-finite_or.result c.from_residual-in_err-finite_or.ensures.1 in
    let l : length c.mix.new.out ≡ 2 * (c.args.n * c.args.n) = c.mix.auto.out ∙ (c.eigen.auto.v ∙ length-take-le _ _ (rw length-replicate (omega (arith, c.requires.0, c.requires.4))) ∙ c.requires.0) in
    let t = found _ _ _ _ _ _ _ c.halve.ensures c.eigen.ensures _ _ _ (sym c.map_err.ensures.variant ∙ ap is_ok c.in_ok-map_err.was) c.fill.ensures c.mix.ensures l c.finite_or.ensures in
    rw (q.1, q.2) (sym c.in_err-finite_or.was ∙ t.0, refl)

pub returns : goal.returns
returns g c =
    let l : length c.mix.new.out ≡ 2 * (c.args.n * c.args.n) = c.mix.auto.out ∙ (c.eigen.auto.v ∙ length-take-le _ _ (rw length-replicate (omega (arith, c.requires.0, c.requires.4))) ∙ c.requires.0) in
    let t = found _ _ _ _ _ _ _ c.halve.ensures c.eigen.ensures _ _ _ (sym c.map_err.ensures.variant ∙ ap is_ok c.in_ok-map_err.was) c.fill.ensures c.mix.ensures l c.finite_or.ensures in
    written _ _ _ c.mix.new.out c.args.out.now _ c.in_ok-finite_or.was t refl
    (ap (λ (z : List Float). z ++ drop (length c.mix.new.out) c.args.out.now) c.copy_from_slice.ensures.after)
