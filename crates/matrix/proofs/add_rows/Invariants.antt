use mathlib.Core.Path.{◌≡◌}
use lib.ListN.{length}
use Rattle.matrix.proofs.Sums.{added}
use Rattle.matrix.proofs.add_rows.Given as goal

abbrev pub invariant-loop-i : goal.invariant-loop-i
invariant-loop-i l = (length l.sums ≡ l.n) × (l.sums ≡ added l.n l.x l.a l.i)
