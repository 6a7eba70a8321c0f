use Prim.Native.Nat.{◌+◌}
use Rattle.lists.proofs.Filling.{Filled}
use Rattle.numbers.specs.Slice.{number_at}
use Rattle.numbers.proofs.load.Given as goal

abbrev pub invariant-loop-i : goal.invariant-loop-i
invariant-loop-i l = Filled (λ k. number_at l.card (l.from + k)) l.initial.x-items l.i l.x-items
