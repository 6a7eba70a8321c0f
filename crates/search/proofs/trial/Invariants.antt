use Rattle.lists.proofs.Filling.{Filled}
use Rattle.numbers.specs.Number.{◌-ᶠ◌, ◌*ᶠ◌}
use Rattle.numbers.specs.Slice.{at}
use Rattle.search.proofs.trial.Given as goal

abbrev pub invariant-loop-i : goal.invariant-loop-i
invariant-loop-i l = Filled (λ j. at l.xs j -ᶠ l.s *ᶠ at l.g j) l.initial.t l.i l.t
