use mathlib.Core.Path.{◌≡◌}
use Rattle.lists.specs.Fold.{fold}
use Rattle.entries.specs.Entries.{entries}
use Rattle.entries.specs.Laid.{laid}
use Rattle.density.specs.Projection.{halved_at}
use Rattle.density.proofs.halve_row.Given as goal

abbrev pub invariant-loop-j : goal.invariant-loop-j
invariant-loop-j l = entries l.h ≡ fold l.j (laid l.n (halved_at l.n (entries l.e)) l.i) (entries l.initial.h)
