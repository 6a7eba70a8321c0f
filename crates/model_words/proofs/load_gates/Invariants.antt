use Rattle.std.proofs.Common.{◌≡◌, length}
use Rattle.lists.proofs.Joined.{Written}
use Rattle.card_parts.specs.Model.{gate_of}
use Rattle.model_words.proofs.load_gates.Given as goal

abbrev pub invariant-loop-g : goal.invariant-loop-g
invariant-loop-g l = (length l.out ≡ length l.initial.out) × Written (gate_of l.card.bytes.now l.card.header) l.initial.out l.g l.out
