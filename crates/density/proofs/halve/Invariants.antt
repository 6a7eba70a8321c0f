use mathlib.Core.Path.{◌≡◌}
use Rattle.lists.specs.Fold.{fold}
use Rattle.entries.specs.Entries.{entries}
use Rattle.entries.specs.Laid.{laid_row}
use Rattle.density.specs.Projection.{halved_at}
use Rattle.density.proofs.halve.Given as goal

abbrev pub invariant-loop-i : goal.invariant-loop-i
invariant-loop-i l = entries l.h ≡ fold l.i (laid_row l.n (halved_at l.n (entries l.e))) (entries l.initial.h)
