use Prim.Native.Nat.{◌*◌}
use mathlib.Core.Path.{◌≡◌}
use lib.ListN.{length}
use Rattle.lists.proofs.Filling.{Filled}
use Rattle.matrix.proofs.Sums.{product_at}
use Rattle.matrix.proofs.mat_mul_of.Given as goal

abbrev pub invariant-loop-i : goal.invariant-loop-i
invariant-loop-i l = (length l.out ≡ length l.initial.out) × Filled (product_at l.n l.a l.b) l.initial.out (l.i * l.n) l.out
