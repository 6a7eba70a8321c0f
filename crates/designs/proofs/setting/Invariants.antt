use Prim.Native.Nat.{◌+◌}
use Rattle.lists.proofs.Filling.{Filled}
use Rattle.designs.specs.Digit.{digit_of}
use Rattle.designs.proofs.setting.Given as goal

abbrev pub invariant-loop-qubit : goal.invariant-loop-qubit
invariant-loop-qubit l = Filled (λ q. digit_of 3 l.n l.index q + 1) l.initial.front l.qubit l.front
