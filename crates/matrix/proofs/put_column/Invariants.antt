use Rattle.lists.proofs.Filling.{Filled}
use Rattle.matrix.specs.Product.{cell}
use Rattle.matrix.proofs.put_column.Given as goal

abbrev pub invariant-loop-i : goal.invariant-loop-i
invariant-loop-i l = Filled (λ m. cell l.n l.a m l.j) l.initial.row l.i l.row
