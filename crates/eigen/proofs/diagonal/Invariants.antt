use Rattle.lists.proofs.Filling.{Filled}
use Rattle.entries.specs.Entries.{entries, entry_at}
use Rattle.eigen.proofs.diagonal.Given as goal

abbrev pub invariant-loop-k : goal.invariant-loop-k
invariant-loop-k l = Filled (λ j. (entry_at l.n (entries l.a) j j).re) l.initial.d l.k l.d
