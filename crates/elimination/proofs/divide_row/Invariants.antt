use Rattle.lists.proofs.Filling.{Filled}
use Rattle.numbers.specs.Number.{◌/ᶠ◌}
use Rattle.numbers.specs.Slice.{at}
use Rattle.elimination.proofs.divide_row.Given as goal

abbrev pub invariant-loop-j : goal.invariant-loop-j
invariant-loop-j l = Filled (λ m. at l.row m /ᶠ at l.row 0) l.initial.out l.j l.out
