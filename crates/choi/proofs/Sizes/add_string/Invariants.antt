use mathlib.Core.Path.{◌≡◌}
use Prim.Native.Nat.{◌+◌, ◌*◌}
use Rattle.numbers.specs.Slice.{at}
use Rattle.choi.specs.Sparse.{with_pair}
use Rattle.lists.specs.Fold.{fold}
use Rattle.choi.proofs.Sizes.add_string.Given as goal

abbrev pub invariant-loop-a : goal.invariant-loop-a
invariant-loop-a l = l.out ≡ fold l.a (λ j xs. with_pair l.self.n l.b j (at l.values (j * l.self.p + l.b)) xs) l.initial.out
