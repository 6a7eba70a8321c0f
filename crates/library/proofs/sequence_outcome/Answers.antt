use mathlib.Core.Path.{refl, sym, ◌∙◌}
use native.Mathlib.Nat.{le_of_eq}
use native.Mathlib.Omega.{arith}
use Rattle.gate_set.specs.GateSet.{probabilities_of}
use Rattle.gate_set.proofs.Columns.{length-probabilities}
use Rattle.sequences.proofs.Sequences.{fitting}
use Rattle.outcome.specs.declared.Answer.TheVariants.{Probabilities}
use Rattle.outcome.proofs.Outcomes.{emitted}
use Rattle.library.specs.Entries.{probabilities_entry}
use Rattle.library.proofs.Entries.{entry-refused, entry-shown}
use Rattle.library.proofs.sequence_outcome.Goals as goal

pub probabilities-requires : goal.probabilities-requires
probabilities-requires c =
    let r = c.requires in
    let f = fitting _ _ _ _ _ (sym c.in_ok-check.was ∙ c.check.ensures) in
    (f.sized, le_of_eq (sym f.count), f.short, f.present, omega (arith, r.1), omega (arith, f.sized.effects))

pub emit-requires : goal.emit-requires
emit-requires c =
    let r = c.requires in
    let f = fitting _ _ _ _ _ (sym c.in_ok-check.was ∙ c.check.ensures) in
    (omega (arith, f.sized.effects), omega (arith, f.sized.effects, r.0))

pub returns-in_err-check : goal.returns-in_err-check
unfolding probabilities_entry
returns-in_err-check c = entry-refused Probabilities _ _ c.check.ensures c.from_residual.ensures.1 c.in_err-check.was

pub returns : goal.returns
unfolding probabilities_entry
returns c =
    let s = c.args in
    entry-shown Probabilities _ _ c.check.ensures refl c.in_ok-check.was (emitted (probabilities_of s.d s.effects s.numbers.now s.sequence.now) _ _ _ _ _ _ (length-probabilities s.d s.effects s.numbers.now s.sequence.now) refl c.probabilities.ensures.0 c.emit.ensures)
