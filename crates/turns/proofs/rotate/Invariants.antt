use mathlib.Core.Path.{◌≡◌}
use Rattle.lists.specs.Fold.{fold}
use Rattle.entries.specs.Entries.{entries}
use Rattle.turns.specs.Steps.{row_rotated}
use Rattle.turns.proofs.rotate.Given as goal

abbrev pub invariant-loop-i : goal.invariant-loop-i
invariant-loop-i l = entries l.a ≡ fold l.i (row_rotated l.n l.t) (entries l.initial.a)
