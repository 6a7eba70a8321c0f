use mathlib.Core.List.{List}
use mathlib.Core.Path.{◌≡◌, sym, ap, ◌∙◌}
use lib.Ieee.{Float}
use borrow.Author.Rules.{rules}
use Rattle.std.proofs.Common.{is_ok}
use Rattle.inversion.proofs.Reductions.{length-inverse}
use Rattle.inversion.specs.Inversion.{inverse_of}
use Rattle.lists.proofs.Parts.{front-again}
use Rattle.lists.specs.Build.{over}
use Rattle.refusal.specs.declared.Refusal.TheVariants.{SingularProcessDesign}
use Rattle.refusal.proofs.Verdicts.{passed_on}
use Rattle.transfer.proofs.Processes.{singular, singular-numbers, length-transfer, product_is, numbers-over, solved}
use Rattle.transfer.specs.Process.{inputs_of, transfer_of}
use Rattle.transfer.proofs.Probes.solve.Goals as goal

pub returns-in_err-map_err : goal.returns-in_err-map_err
returns-in_err-map_err c =
    let e : c.in_err-map_err.field-0.0 ≡ SingularProcessDesign = search rules in
    let h = sym c.invert_inputs.ensures.0 ∙ (sym c.map_err.ensures.variant ∙ ap is_ok c.in_err-map_err.was) in
    (passed_on c.from_residual.ensures.1 (rw e (singular _ _ _ h)), ap (λ (z : List Float). over z c.args.out.now) (singular-numbers _ _ _ h))

pub returns : goal.returns
returns c =
    let a = c.args.self.now in
    let v = a.vectors.now in
    let h = sym c.invert_inputs.ensures.0 ∙ (sym c.map_err.ensures.variant ∙ ap is_ok c.in_ok-map_err.was) in
    let b = front-again (inverse_of a.p a.tolerance (inputs_of v a.p)) _ c.invert_inputs.ensures.1 (length-inverse _ _ _ h) in
    let q = product_is _ _ _ h _ _ _ b c.multiply_outputs.ensures in
    (solved _ _ _ h _ _ (front-again (transfer_of a.tolerance v a.p) _ q (length-transfer _ _ _)) c.finite_or.ensures, numbers-over _ _ _ h _ _ q)
