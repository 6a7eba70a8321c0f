use Prim.Native.Nat.{◌*◌, ◌+◌}
use mathlib.Core.Path.{◌≡◌}
use lib.ListN.{length}
use Rattle.lists.specs.Fold.{fold}
use Rattle.elimination.specs.Rows.{on_row}
use Rattle.elimination.specs.Kept.{kept_row}
use Rattle.elimination.proofs.keep_rows.Given as goal

abbrev pub invariant-loop-i : goal.invariant-loop-i
invariant-loop-i l = (length l.work ≡ length l.initial.work) × (l.work ≡ fold l.i (λ j. on_row (2 * l.n + 2) j (kept_row l.n l.k l.pivot j)) l.initial.work)
