use mathlib.Core.Path.{◌≡◌}
use Rattle.lists.specs.Fold.{fold}
use Rattle.entries.specs.Entries.{entries}
use Rattle.entries.specs.Laid.{laid}
use Rattle.eigen.specs.Jacobi.{unit_at}
use Rattle.eigen.proofs.unit_row.Given as goal

abbrev pub invariant-loop-j : goal.invariant-loop-j
invariant-loop-j l = entries l.v ≡ fold l.j (laid l.n unit_at l.i) (entries l.initial.v)
