use Rattle.std.proofs.Common.{◌≡◌, ◌*◌, ◌<◌, ℕ, [], length, take}
use Rattle.lists.specs.Fold.{fold}
use Rattle.lists.specs.Part.{part}
use Rattle.matrix.specs.Product.{row_mat_of}
use Rattle.gate_set.specs.Models.{model_at, row_at}
use Rattle.gate_set.proofs.Columns.{gate_by}
use Rattle.gate_set.proofs.Turned.{Turned}
use Rattle.gate_set.proofs.run_of.Given as goal

abbrev pub invariant-loop-g : goal.invariant-loop-g
invariant-loop-g g l = (length l.xs ≡ length l.models) × ((k : ℕ) → k < length l.models → take l.d (row_at l.xs k) ≡ fold l.g-index (gate_by l.d (model_at l.models k).columns.now l.sequence) (take l.d (row_at l.initial.xs k)))

abbrev pub invariant-loop-k : goal.invariant-loop-k
invariant-loop-k g l = Turned [] (λ k x y. take l.d y ≡ row_mat_of l.d (take l.d x) (part (l.g * (l.d * l.d)) (l.d * l.d) (model_at l.models k).columns.now)) l.initial.xs l.k l.xs
