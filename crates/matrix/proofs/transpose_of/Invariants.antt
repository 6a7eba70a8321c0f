use Prim.Native.Nat.{◌*◌}
use mathlib.Core.Path.{◌≡◌}
use lib.ListN.{length}
use Rattle.lists.proofs.Filling.{Filled}
use Rattle.matrix.proofs.Transposes.{transposed_at}
use Rattle.matrix.proofs.transpose_of.Given as goal

abbrev pub invariant-loop-j : goal.invariant-loop-j
invariant-loop-j l = (length l.out ≡ length l.initial.out) × Filled (transposed_at l.n l.a) l.initial.out (l.j * l.n) l.out
