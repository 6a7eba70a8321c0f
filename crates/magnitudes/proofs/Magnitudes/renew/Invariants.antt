use mathlib.Core.Path.{◌≡◌}
use Rattle.lists.specs.Fold.{fold}
use Rattle.entries.specs.Entries.{entries}
use Rattle.magnitudes.specs.Kept.{renewed_row}
use Rattle.magnitudes.proofs.Magnitudes.renew.Given as goal

abbrev pub invariant-loop-i : goal.invariant-loop-i
invariant-loop-i l = l.self.cells ≡ fold l.i (renewed_row l.n (entries l.a) l.p l.q) l.initial.self.cells
