use Rattle.library.proofs.Entries.{apply-few, apply-numbers, entry-refused, entry-shown}
use Rattle.library.specs.Entries.{apply_entry}
use Rattle.outcome.proofs.Outcomes.{emitted}
use Rattle.outcome.specs.declared.Answer.TheVariants.{Applied}
use Prim.Native.Nat.{◌^◌}
use Rattle.matrix.proofs.Sums.{length-mat-vec}
use Rattle.matrix.specs.Product.{mat_vec_of}
use Rattle.lists.specs.Build.{over}
use native.Mathlib.Omega.{arith}
use lib.Ieee.{Float}
use mathlib.Core.List.{List}
use mathlib.Core.Path.{sym, ap, ◌∙◌}
use Rattle.library.proofs.apply.Goals as goal

pub four_to-p-requires : goal.four_to-p-requires
four_to-p-requires c = omega (arith, apply-few _ _ _ (sym c.in_ok-apply_within.was ∙ c.apply_within.ensures.0))

pub returns-in_err-apply_within : goal.returns-in_err-apply_within
unfolding apply_entry
returns-in_err-apply_within c = entry-refused Applied _ _ c.apply_within.ensures.0 c.from_residual.ensures.1 c.in_err-apply_within.was

pub returns : goal.returns
unfolding apply_entry
returns c =
    let apply-within = c.apply_within.ensures in
    let four-to = c.four_to-p.ensures in
    let n = c.args.n in
    let a = c.args.values.now in
    let x = c.args.input.now in
    let f = apply-numbers n a x (sym c.in_ok-apply_within.was ∙ apply-within.0) in
    entry-shown Applied _ _ apply-within.0 four-to.0 c.in_ok-apply_within.was (emitted (mat_vec_of (4 ^ n) a x) _ _ _ _ _ _ (length-mat-vec _ _ _) four-to.0 (apply-within.1 ∙ ap (λ (y : List Float). over y c.args.work.now) (sym f)) c.emit.ensures)
