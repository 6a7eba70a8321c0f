use Rattle.std.proofs.Common.{◌≡◌, ◌^◌, ◌<◌}
use Rattle.likelihood.proofs.Counts.{up_to}
use Rattle.likelihood.proofs.add_counts.Given as goal

abbrev pub invariant-loop-c : goal.invariant-loop-c
invariant-loop-c l = (l.t ≡ up_to l.counts l.c-index) × (l.t < 2 ^ 64)
