use Rattle.library.proofs.Entries.{few, entry-refused, entry-shown}
use Rattle.library.specs.Entries.{probes_entry}
use Rattle.outcome.proofs.Outcomes.{emitted}
use Rattle.outcome.specs.declared.Answer.TheVariants.{Probes}
use Rattle.designs.proofs.Sizes.{square, length-probes}
use Rattle.designs.specs.Probes.{probes_of}
use native.Mathlib.Omega.{arith}
use mathlib.Core.Path.{sym, ◌∙◌}
use Rattle.library.proofs.probes.Goals as goal

pub four_to-count-requires : goal.four_to-count-requires
four_to-count-requires c = few 3 _ (sym c.in_ok-check_qubits.was ∙ c.check_qubits.ensures)

pub probes-requires : goal.probes-requires
probes-requires c =
    let s = square c.four_to-count.ensures.0 c.four_to-count.ensures.1 in
    let r = c.requires in
    (few 3 _ (sym c.in_ok-check_qubits.was ∙ c.check_qubits.ensures), omega (arith, s.all, s.most, r.1))

pub returns-in_err-check_qubits : goal.returns-in_err-check_qubits
unfolding probes_entry
returns-in_err-check_qubits c = entry-refused Probes _ _ c.check_qubits.ensures c.from_residual.ensures.1 c.in_err-check_qubits.was

pub returns : goal.returns
unfolding probes_entry
returns c =
    let four-to = c.four_to-count.ensures in
    let n = c.args.n in
    entry-shown Probes _ _ c.check_qubits.ensures four-to.0 c.in_ok-check_qubits.was (emitted (probes_of n) _ _ _ _ _ _ (length-probes n) (square four-to.0 four-to.1).all c.probes.ensures c.emit.ensures)
