use mathlib.Core.Path.{◌≡◌}
use Rattle.choi.specs.Sparse.{with_row}
use Rattle.lists.specs.Fold.{fold}
use Rattle.choi.proofs.Sizes.add_pair.Given as goal

abbrev pub invariant-loop-j : goal.invariant-loop-j
invariant-loop-j l = l.out ≡ fold l.j (λ m xs. with_row l.self.n l.b l.a l.x m xs) l.initial.out
