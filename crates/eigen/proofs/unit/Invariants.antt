use mathlib.Core.Path.{◌≡◌}
use Rattle.lists.specs.Fold.{fold}
use Rattle.entries.specs.Entries.{entries}
use Rattle.entries.specs.Laid.{laid_row}
use Rattle.eigen.specs.Jacobi.{unit_at}
use Rattle.eigen.proofs.unit.Given as goal

abbrev pub invariant-loop-i : goal.invariant-loop-i
invariant-loop-i l = entries l.v ≡ fold l.i (laid_row l.n unit_at) (entries l.initial.v)
