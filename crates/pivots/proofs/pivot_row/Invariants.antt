use Prim.Native.Nat.{◌≤◌, ◌+◌, ◌<◌}
use mathlib.Core.Path.{◌≡◌}
use Rattle.lists.specs.Fold.{fold}
use Rattle.pivots.specs.Pivots.{larger_row}
use Rattle.pivots.proofs.Picked.{magnitude_at}
use Rattle.pivots.proofs.pivot_row.Given as goal

abbrev pub invariant-loop-t : goal.invariant-loop-t
invariant-loop-t l = (l.t ≤ l.m) × (l.p < l.n) × (l.size ≡ magnitude_at l.w l.k l.work l.p) × (l.p ≡ fold l.t (λ q j. larger_row l.w l.k l.work j (l.k + q)) l.k)
