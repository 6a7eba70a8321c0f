use Rattle.refusal.proofs.Verdicts.{passed_on}
use Rattle.library.proofs.Entries.{few, size-two, apply-refused, apply-goes-on}
use Rattle.lists.specs.Build.{over}
use native.Mathlib.Omega.{arith}
use lib.Ieee.{Float}
use mathlib.Core.Path.{sym, ap, ◌∙◌}
use mathlib.Core.List.{List}
use Rattle.library.proofs.apply_within.Goals as goal

pub four_to-requires : goal.four_to-requires
four_to-requires c = omega (arith, few 2 _ (sym c.in_ok-check_qubits.was ∙ c.check_qubits.ensures))

pub apply_expectations-requires : goal.apply_expectations-requires
apply_expectations-requires c =
    let h = size-two _ _ (few 2 _ (sym c.in_ok-check_qubits.was ∙ c.check_qubits.ensures)) c.four_to.ensures.0 in
    (h, omega (arith, h, c.requires))

pub returns-in_err-check_qubits : goal.returns-in_err-check_qubits
returns-in_err-check_qubits c =
    let v = apply-refused c.args.n c.args.values.now c.args.input.now _ _ c.check_qubits.ensures c.in_err-check_qubits.was in
    (passed_on c.from_residual.ensures.1 v.0, ap (λ (x : List Float). over x c.args.work.now) v.1)

pub returns : goal.returns
returns c =
    let v = apply-goes-on c.args.n c.args.values.now c.args.input.now _ (sym c.in_ok-check_qubits.was ∙ c.check_qubits.ensures) c.four_to.ensures.0 in
    let a = c.apply_expectations.ensures in
    (a.0 ∙ v.0, a.1 ∙ ap (λ (x : List Float). over x c.args.work.now) v.1)
