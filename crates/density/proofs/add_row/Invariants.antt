use mathlib.Core.Path.{◌≡◌}
use Rattle.lists.specs.Fold.{fold}
use Rattle.entries.specs.Entries.{entries}
use Rattle.entries.specs.Laid.{changed}
use Rattle.density.specs.Steps.{row_added}
use Rattle.density.proofs.add_row.Given as goal

abbrev pub invariant-loop-j : goal.invariant-loop-j
invariant-loop-j l = entries l.out ≡ fold l.j (changed l.n (row_added l.x (entries l.u)) l.i) (entries l.initial.out)
