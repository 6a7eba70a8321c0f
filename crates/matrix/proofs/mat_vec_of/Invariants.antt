use Rattle.lists.proofs.Filling.{Filled}
use Rattle.numbers.specs.Number.{◌*ᶠ◌}
use Rattle.numbers.specs.Slice.{at}
use Rattle.matrix.specs.Product.{cell, sum_of}
use Rattle.matrix.proofs.mat_vec_of.Given as goal

abbrev pub invariant-loop-i : goal.invariant-loop-i
invariant-loop-i l = Filled (λ m. sum_of l.n (λ j. cell l.n l.a m j *ᶠ at l.x j)) l.initial.y-items l.i l.y-items
