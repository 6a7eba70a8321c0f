use Rattle.filling.proofs.Counting.{Counted}
use Rattle.filling.proofs.active_count.Given as goal

abbrev pub invariant-loop-i : goal.invariant-loop-i
invariant-loop-i l = Counted l.u l.i l.sum l.active
