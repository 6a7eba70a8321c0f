use Rattle.lists.proofs.Filling.{Filled}
use Rattle.card_parts.specs.Parts.{count_in}
use Rattle.diagnostics.proofs.load_counts.Given as goal

abbrev pub invariant-loop-k : goal.invariant-loop-k
invariant-loop-k l = Filled (count_in l.card.bytes.now l.card.header l.r) l.initial.out l.k l.out
