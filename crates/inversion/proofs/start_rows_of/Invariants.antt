use Prim.Native.Nat.{◌*◌, ◌+◌}
use mathlib.Core.Path.{◌≡◌}
use lib.ListN.{length}
use Rattle.lists.proofs.Filling.{Filled}
use Rattle.inversion.proofs.Halves.{start_number}
use Rattle.inversion.proofs.start_rows_of.Given as goal

abbrev pub invariant-loop-i : goal.invariant-loop-i
invariant-loop-i l = (length l.work ≡ length l.initial.work) × Filled (start_number l.n l.a) l.initial.work (l.i * (2 * l.n + 2)) l.work
