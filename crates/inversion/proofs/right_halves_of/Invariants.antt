use Prim.Native.Nat.{◌*◌}
use mathlib.Core.Path.{◌≡◌}
use lib.ListN.{length}
use Rattle.lists.proofs.Filling.{Filled}
use Rattle.inversion.proofs.Halves.{right_number}
use Rattle.inversion.proofs.right_halves_of.Given as goal

abbrev pub invariant-loop-i : goal.invariant-loop-i
invariant-loop-i l = (length l.out ≡ length l.initial.out) × Filled (right_number l.n l.places l.work) l.initial.out (l.i * l.n) l.out
