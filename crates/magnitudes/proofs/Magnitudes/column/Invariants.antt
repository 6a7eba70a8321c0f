use mathlib.Core.Path.{◌≡◌}
use Rattle.lists.specs.Fold.{fold}
use Rattle.magnitudes.specs.Kept.{column}
use Rattle.magnitudes.specs.Pivot.{larger, no_pivot}
use Rattle.magnitudes.proofs.Magnitudes.column.Given as goal

abbrev pub invariant-loop-c : goal.invariant-loop-c
invariant-loop-c l = l.g ≡ fold l.c (λ c. larger (column l.n l.self.cells c) c 0) no_pivot
