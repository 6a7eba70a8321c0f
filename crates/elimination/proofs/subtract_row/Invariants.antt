use Rattle.lists.proofs.Filling.{Filled}
use Rattle.numbers.specs.Number.{◌-ᶠ◌, ◌*ᶠ◌}
use Rattle.numbers.specs.Slice.{at}
use Rattle.elimination.proofs.subtract_row.Given as goal

abbrev pub invariant-loop-j : goal.invariant-loop-j
invariant-loop-j l = Filled (λ m. at l.initial.row m -ᶠ l.f *ᶠ at l.pivot m) l.initial.row l.j l.row
