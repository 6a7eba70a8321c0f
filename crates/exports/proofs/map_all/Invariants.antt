use mathlib.Core.Path.{◌≡◌}
use lib.Ieee.{Float}
use Rattle.lists.proofs.Filling.{Filled}
use Rattle.numbers.specs.Slice.{at}
use Rattle.exports.proofs.map_all.Given as goal

abbrev pub invariant-loop-i : goal.invariant-loop-i
invariant-loop-i g l = (h : Float → Float) → ((v r : Float) → goal.F-post g l.f v r → r ≡ h v) → Filled (λ k. h (at l.x k)) l.initial.y-items l.i l.y-items
