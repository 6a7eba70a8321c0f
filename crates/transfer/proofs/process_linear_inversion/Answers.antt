use Rattle.std.proofs.Common.{Err}
use mathlib.Core.Path.{ap, ◌∙◌}
use mathlib.Core.List.{List, []}
use lib.Ieee.{Float}
use Rattle.lists.specs.Build.{over}
use Rattle.refusal.proofs.Verdicts.{passed_on, tolerance-refused, tolerance-passed}
use Rattle.transfer.specs.Vectors.{vetted_of}
use Rattle.transfer.specs.Process.{screened}
use Rattle.transfer.proofs.process_linear_inversion.Goals as goal

pub returns-in_err-check_tolerance : goal.returns-in_err-check_tolerance
unfolding screened
returns-in_err-check_tolerance c =
    let t = c.in_err-check_tolerance.ensures in
    (passed_on c.from_residual.ensures.1 (tolerance-refused _ (vetted_of _ c.args.vectors.now _) Err _ _ t), ap (λ (z : List Float). over z c.args.out.now) (tolerance-refused _ (vetted_of _ c.args.vectors.now _) (λ _. []) _ _ t))

pub returns-in_err-vet : goal.returns-in_err-vet
unfolding screened
returns-in_err-vet c =
    let t = c.in_ok-check_tolerance.ensures in
    let v = c.in_err-vet.ensures in
    (passed_on c.from_residual-in_err-vet.ensures.1 (tolerance-passed _ (vetted_of _ c.args.vectors.now _) Err _ _ t v), ap (λ (z : List Float). over z c.args.out.now) (tolerance-passed _ (vetted_of _ c.args.vectors.now _) (λ _. []) _ _ t v))

pub returns : goal.returns
unfolding screened
returns c =
    let t = c.in_ok-check_tolerance.ensures in
    let v = c.in_ok-vet.ensures in
    let solve = c.solve.ensures in
    (solve.0 ∙ tolerance-passed _ (vetted_of _ c.args.vectors.now _) Err _ _ t v, solve.1 ∙ ap (λ (z : List Float). over z c.args.out.now) (tolerance-passed _ (vetted_of _ c.args.vectors.now _) (λ _. []) _ _ t v))
