use Rattle.refusal.proofs.Verdicts.{passed_on}
use Rattle.choi.proofs.Places.{parts-most}
use Rattle.library.proofs.Entries.{some, few, choi-refused, choi-goes-on}
use Rattle.lists.specs.Build.{over}
use native.Mathlib.Omega.{arith}
use lib.Ieee.{Float}
use mathlib.Core.Path.{sym, ap, ◌∙◌}
use mathlib.Core.List.{List}
use Rattle.library.proofs.choi_within.Goals as goal

pub normalized_choi-requires : goal.normalized_choi-requires
normalized_choi-requires c =
    let g = sym c.in_ok-check_qubits.was ∙ c.check_qubits.ensures in
    (some 2 _ g, few 2 _ g, omega (arith, parts-most _ (few 2 _ g), c.requires))

pub returns-in_err-check_qubits : goal.returns-in_err-check_qubits
returns-in_err-check_qubits c =
    let a = c.args in
    let v = choi-refused a.n a.values.now _ _ c.check_qubits.ensures c.in_err-check_qubits.was in
    (passed_on c.from_residual.ensures.1 v.0, ap (λ (x : List Float). over x a.work.now) v.1)

pub returns : goal.returns
returns c =
    let a = c.args in
    let normalized-choi = c.normalized_choi.ensures in
    let v = choi-goes-on a.n a.values.now (sym c.in_ok-check_qubits.was ∙ c.check_qubits.ensures) in
    (normalized-choi.0 ∙ v.0, normalized-choi.1 ∙ ap (λ (x : List Float). over x a.work.now) v.1)
