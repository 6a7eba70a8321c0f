use Rattle.refusal.proofs.Verdicts.{passed_on}
use Rattle.library.proofs.Entries.{few, setting-refused, setting-absent, setting-there}
use mathlib.Core.Path.{sym, ◌∙◌}
use Rattle.library.proofs.check_setting.Goals as goal

pub three_to-requires : goal.three_to-requires
three_to-requires c = few 3 _ (sym c.in_ok-check_qubits.was ∙ c.check_qubits.ensures)

pub returns-then-three_to-index : goal.returns-then-three_to-index
returns-then-three_to-index c = setting-absent _ _ _ (sym c.in_ok-check_qubits.was ∙ c.check_qubits.ensures) c.three_to.ensures.0 c.if-three_to-index.true

pub returns-in_err-check_qubits : goal.returns-in_err-check_qubits
returns-in_err-check_qubits c = passed_on c.from_residual.ensures.1 (setting-refused _ _ _ _ c.check_qubits.ensures c.in_err-check_qubits.was)

pub returns : goal.returns
returns c = setting-there _ _ _ (sym c.in_ok-check_qubits.was ∙ c.check_qubits.ensures) c.three_to.ensures.0 c.if-three_to-index.false
