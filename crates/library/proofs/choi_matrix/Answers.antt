use Rattle.choi.proofs.Places.{parts-most}
use Rattle.library.proofs.Entries.{choi-few, choi-numbers, entry-refused, entry-shown}
use Rattle.library.specs.Entries.{choi_entry}
use Rattle.outcome.proofs.Outcomes.{emitted}
use Rattle.outcome.specs.declared.Answer.TheVariants.{Choi}
use Rattle.choi.specs.Choi.{choi_of}
use Rattle.choi.proofs.Values.{length-choi}
use Rattle.lists.specs.Build.{over}
use native.Mathlib.Omega.{arith}
use lib.Ieee.{Float}
use Prim.Native.Nat.{ℕ, ◌*◌}
use mathlib.Core.List.{List}
use mathlib.Core.Path.{sym, ap, ap₂, ◌∙◌}
use Rattle.library.proofs.choi_matrix.Goals as goal

pub four_to-p-requires : goal.four_to-p-requires
four_to-p-requires c = omega (arith, choi-few _ _ (sym c.in_ok-choi_within.was ∙ c.choi_within.ensures.0))

pub emit-requires : goal.emit-requires
emit-requires c =
    let four-to = c.four_to-p.ensures in
    let r = c.requires in
    let h = parts-most _ (choi-few _ _ (sym c.in_ok-choi_within.was ∙ c.choi_within.ensures.0)) in
    let q = c.square.ensures.0 ∙ ap₂ ◌*◌ four-to.0 four-to.0 in
    (omega (arith, h, q, r.1), omega (arith, h, q, r.0))

pub returns-in_err-choi_within : goal.returns-in_err-choi_within
unfolding choi_entry
returns-in_err-choi_within c = entry-refused Choi _ _ c.choi_within.ensures.0 c.from_residual.ensures.1 c.in_err-choi_within.was

pub returns : goal.returns
unfolding choi_entry
returns c =
    let a = c.args in
    let choi-within = c.choi_within.ensures in
    let four-to = c.four_to-p.ensures in
    let f = choi-numbers a.n a.values.now (sym c.in_ok-choi_within.was ∙ choi-within.0) in
    let q = c.square.ensures.0 ∙ ap₂ ◌*◌ four-to.0 four-to.0 in
    entry-shown Choi _ _ choi-within.0 four-to.0 c.in_ok-choi_within.was (emitted (choi_of a.n a.values.now) _ _ _ _ _ _ (length-choi _ _) (ap (λ (m : ℕ). 2 * m) q) (choi-within.1 ∙ ap (λ (y : List Float). over y a.work.now) (sym f)) c.emit.ensures)
