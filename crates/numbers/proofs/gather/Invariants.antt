use lib.ListN.{get_or}
use Rattle.numbers.specs.Slice.{at}
use Rattle.lists.proofs.Filling.{Filled}
use Rattle.numbers.proofs.gather.Given as goal

abbrev pub invariant-loop-k : goal.invariant-loop-k
invariant-loop-k l = Filled (λ j. at l.xs (get_or l.places j 0)) l.initial.out l.k l.out
