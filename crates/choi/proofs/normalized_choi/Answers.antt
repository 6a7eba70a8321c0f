use Prim.Native.Nat.{ℕ, ◌^◌}
use mathlib.Core.List.{List}
use mathlib.Core.Path.{ap, ◌∙◌, refl}
use lib.Ieee.{Float}
use lib.Seq.{length-take-le}
use Rattle.std.proofs.lemmas.Result.{err_from_is_err_and}
use Rattle.lists.specs.Build.{over}
use Rattle.lists.proofs.Parts.{front-over}
use Rattle.refusal.proofs.Verdicts.{good_length}
use Rattle.choi.specs.Choi.{choi_of}
use Rattle.choi.proofs.Steps.{room}
use Rattle.choi.proofs.Sums.{length-choi, tested}
use Rattle.choi.proofs.Values.{good-finite, checked, values-refused, values-good}
use Rattle.choi.proofs.normalized_choi.Goals as goal

pub choi-requires : goal.choi-requires
choi-requires c =
    let s = c.of-sizes.result.sides.strings ∙ ap (λ (n : ℕ). 4 ^ n) c.of-sizes.ensures in
    (good_length _ _ c.in_ok-check_numbers.ensures, length-take-le _ _ (room _ _ _ s c.requires.2), good-finite _ _ c.in_ok-check_numbers.ensures)

pub returns-in_err-check_numbers : goal.returns-in_err-check_numbers
returns-in_err-check_numbers c =
    let q = err_from_is_err_and c.from_residual.result c.from_residual.ensures.1 in
    let s = c.of-sizes.result.sides.strings ∙ ap (λ (n : ℕ). 4 ^ n) c.of-sizes.ensures in
    let r = values-refused c.args.n c.args.values.now _ _ (checked c.args.n c.args.values.now _ _ _ s refl c.check_numbers.ensures) c.in_err-check_numbers.was in
    rw (q.1, q.2) (r.0, ap (λ (x : List Float). over x c.args.out.now) r.1)

pub returns : goal.returns
returns c =
    let s = c.of-sizes.result.sides.strings ∙ ap (λ (n : ℕ). 4 ^ n) c.of-sizes.ensures in
    let e = c.choi.ensures ∙ ap (λ (n : ℕ). choi_of n c.args.values.now) c.of-sizes.ensures in
    let g = values-good c.args.n c.args.values.now _ (checked c.args.n c.args.values.now _ _ _ s refl c.check_numbers.ensures) c.in_ok-check_numbers.was in
    (tested _ _ _ _ e c.finite_or.ensures ∙ g.0, front-over _ _ _ _ e (length-choi _ _ _ s) ∙ ap (λ (x : List Float). over x c.args.out.now) g.1)
