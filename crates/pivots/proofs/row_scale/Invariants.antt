use mathlib.Core.Path.{◌≡◌}
use Rattle.lists.specs.Fold.{fold}
use Rattle.numbers.specs.Number.{abs, max, zero_f}
use Rattle.numbers.specs.Slice.{at}
use Rattle.pivots.proofs.Sizes.{Sized}
use Rattle.pivots.proofs.row_scale.Given as goal

abbrev pub invariant-loop-x : goal.invariant-loop-x
invariant-loop-x l = (l.s ≡ fold l.x-index (λ m j. max j (abs (at l.row m))) zero_f) × Sized l.s
