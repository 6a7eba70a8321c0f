use Rattle.lists.proofs.Filling.{Filled}
use Rattle.numbers.specs.Number.{word}
use Rattle.numbers.specs.Slice.{at}
use Rattle.numbers.proofs.emit.Given as goal

abbrev pub invariant-loop-i : goal.invariant-loop-i
invariant-loop-i l = Filled (λ k. word (at l.numbers k)) l.initial.w-items l.i l.w-items
