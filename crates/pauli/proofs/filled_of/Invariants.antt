use Prim.Native.Nat.{◌-◌}
use Rattle.pauli.proofs.Digits.{Going}
use Rattle.pauli.proofs.filled_of.Given as goal

abbrev pub invariant-loop : goal.invariant-loop
invariant-loop l = Going l.n l.code l.row l.column l.power l.place l.c l.x (l.n - l.counter)
