use mathlib.Core.Path.{◌≡◌}
use Rattle.choi.specs.Sparse.{with_term}
use Rattle.lists.specs.Fold.{fold}
use Rattle.choi.proofs.Sizes.add_row.Given as goal

abbrev pub invariant-loop-r : goal.invariant-loop-r
invariant-loop-r l = l.out ≡ fold l.r (λ m xs. with_term l.self.n l.a l.f.column l.f.power l.w l.j m xs) l.initial.out
