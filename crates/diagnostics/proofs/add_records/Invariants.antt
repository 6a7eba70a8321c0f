use Rattle.std.proofs.Common.{◌≡◌, ◌<◌, ℕ, length}
use Rattle.gate_set.specs.Models.{model_at}
use Rattle.likelihood.proofs.Loops.{weighed}
use Rattle.diagnostics.specs.Diagnostics.{no_diagnostics}
use Rattle.diagnostics.specs.Lent.{sum_at, step_of}
use Rattle.diagnostics.proofs.add_records.Given as goal

abbrev pub invariant-loop-r : goal.invariant-loop-r
invariant-loop-r g l = (length l.room ≡ 64) × (length l.sums ≡ length l.models) × ((k : ℕ) → k < length l.models → sum_at l.sums k ≡ weighed (step_of l.c (model_at l.models k).numbers.now) no_diagnostics l.r)
