use Rattle.lists.proofs.Filling.{Filled}
use Rattle.inversion.proofs.number_places.Given as goal

abbrev pub invariant-loop-c : goal.invariant-loop-c
invariant-loop-c l = Filled (λ j. j) l.initial.places l.c l.places
