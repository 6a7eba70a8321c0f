use mathlib.Core.Path.{◌≡◌}
use Rattle.refusal.specs.Verdicts.{good}
use Rattle.lists.specs.Fold.{fold}
use Rattle.gate_set.proofs.Sequences.{tested}
use Rattle.gate_set.proofs.check_sequence.Given as goal

abbrev pub invariant-loop-g : goal.invariant-loop-g
invariant-loop-g l = good ≡ fold l.g-index (tested l.gates l.sequence) good
