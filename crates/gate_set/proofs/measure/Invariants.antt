use Rattle.lists.proofs.Filling.{Filled}
use Rattle.matrix.specs.Product.{dot_of}
use Rattle.gate_set.specs.GateSet.{effect_in}
use lib.ListN.{length}
use Rattle.gate_set.proofs.measure.Given as goal

abbrev pub invariant-loop-k : goal.invariant-loop-k
invariant-loop-k l = Filled (λ j. dot_of (length l.x) (effect_in (length l.x) l.model j) l.x) l.initial.p-items l.k l.p-items
