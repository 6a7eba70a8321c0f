use Rattle.std.proofs.Common.{Err}
use mathlib.Core.Path.{ap, ◌∙◌}
use mathlib.Core.List.{List, []}
use native.Mathlib.Omega.{arith}
use lib.Ieee.{Float}
use Rattle.lists.specs.Build.{over}
use Rattle.refusal.proofs.Verdicts.{passed_on, tolerance-refused, tolerance-passed}
use Rattle.pauli.specs.Density.{vet_of, admitted}
use Rattle.pauli.proofs.Admission.{good-finite, some}
use Rattle.pauli.proofs.linear_inversion.Goals as goal

pub returns-in_err-check_tolerance : goal.returns-in_err-check_tolerance
unfolding admitted
returns-in_err-check_tolerance c =
    let t = c.in_err-check_tolerance.ensures in
    (passed_on c.from_residual.ensures.1 (tolerance-refused _ (vet_of _ c.args.es.now) Err _ _ t), ap (λ (z : List Float). over z c.args.out.now) (tolerance-refused _ (vet_of _ c.args.es.now) (λ _. []) _ _ t))

pub vet-requires : goal.vet-requires
vet-requires c = omega (arith, some _ c.requires.0)

pub density_tested-requires : goal.density_tested-requires
density_tested-requires c = (c.requires.0, c.requires.1, c.requires.2, good-finite _ _ c.in_ok-vet.ensures)

pub returns-in_err-vet : goal.returns-in_err-vet
unfolding admitted
returns-in_err-vet c =
    let t = c.in_ok-check_tolerance.ensures in
    let v = c.in_err-vet.ensures in
    (passed_on c.from_residual-in_err-vet.ensures.1 (tolerance-passed _ (vet_of _ c.args.es.now) Err _ _ t v), ap (λ (z : List Float). over z c.args.out.now) (tolerance-passed _ (vet_of _ c.args.es.now) (λ _. []) _ _ t v))

pub returns : goal.returns
unfolding admitted
returns c =
    let t = c.in_ok-check_tolerance.ensures in
    let v = c.in_ok-vet.ensures in
    let density-tested = c.density_tested.ensures in
    (density-tested.0 ∙ tolerance-passed _ (vet_of _ c.args.es.now) Err _ _ t v, density-tested.1 ∙ ap (λ (z : List Float). over z c.args.out.now) (tolerance-passed _ (vet_of _ c.args.es.now) (λ _. []) _ _ t v))
