use mathlib.Core.Path.{◌≡◌}
use lib.ListN.{get_or}
use Rattle.lists.specs.Fold.{fold}
use Rattle.entries.specs.Entries.{entries, entry_at}
use Rattle.entries.specs.Laid.{laid_row}
use Rattle.eigen.proofs.columns.Given as goal

abbrev pub invariant-loop-i : goal.invariant-loop-i
invariant-loop-i l = entries l.a ≡ fold l.i (laid_row l.n (λ m j. entry_at l.n (entries l.v) m (get_or l.order j 0))) (entries l.initial.a)
