use Rattle.std.proofs.Common.{◌≡◌, length, get_or}
use Rattle.lists.proofs.Filling.{Filled}
use Rattle.sequences.proofs.indices.Given as goal

abbrev pub invariant-loop-k : goal.invariant-loop-k
invariant-loop-k l = (64 ≡ length l.room) × Filled (λ j. get_or l.sequence j 0) l.initial.room l.k l.room
