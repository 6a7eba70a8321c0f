use Rattle.lists.proofs.Joined.{Written}
use Rattle.matrix.specs.Product.{transposed_of}
use Rattle.gate_set.specs.GateSet.{gate_in}
use Rattle.gate_set.proofs.gates_by_columns.Given as goal

abbrev pub invariant-loop-g : goal.invariant-loop-g
invariant-loop-g l = Written (λ j. transposed_of l.d (gate_in l.d l.e l.model j)) l.initial.out l.g l.out
