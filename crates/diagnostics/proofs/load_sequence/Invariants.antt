use lib.ListN.{get_or}
use Rattle.lists.proofs.Filling.{Filled}
use Rattle.card_parts.specs.Parts.{sequence_of}
use Rattle.diagnostics.proofs.load_sequence.Given as goal

abbrev pub invariant-loop-k : goal.invariant-loop-k
invariant-loop-k l = Filled (λ j. get_or (sequence_of l.card.bytes.now l.card.header l.r) j 0) l.initial.out l.k l.out
