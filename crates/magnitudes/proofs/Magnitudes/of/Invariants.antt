use mathlib.Core.Path.{◌≡◌}
use lib.ListN.{replicate}
use Rattle.lists.specs.Fold.{fold}
use Rattle.numbers.specs.Number.{zero_f}
use Rattle.entries.specs.Entries.{entries}
use Rattle.magnitudes.specs.Kept.{filled_row}
use Rattle.magnitudes.proofs.Magnitudes.of.Given as goal

abbrev pub invariant-loop-i : goal.invariant-loop-i
invariant-loop-i l = l.magnitudes.cells ≡ fold l.i (filled_row l.n (entries l.a)) (replicate 256 zero_f)
