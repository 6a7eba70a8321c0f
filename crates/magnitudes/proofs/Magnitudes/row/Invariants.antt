use Prim.Native.Nat.{◌-◌, ◌+◌}
use mathlib.Core.Path.{◌≡◌}
use Rattle.lists.specs.Fold.{fold}
use Rattle.magnitudes.specs.Kept.{cell}
use Rattle.magnitudes.specs.Pivot.{larger, no_pivot}
use Rattle.magnitudes.proofs.Magnitudes.row.Given as goal

abbrev pub invariant-loop-q : goal.invariant-loop-q
invariant-loop-q l = l.g ≡ fold (l.q - (l.p + 1)) (λ d. larger (cell l.self.cells l.p (l.p + 1 + d)) l.p (l.p + 1 + d)) no_pivot
