use Prim.Native.Nat.{◌/◌, ◌%◌}
use Rattle.lists.proofs.Filling.{Filled}
use Rattle.designs.specs.Probes.{expectation}
use Rattle.designs.proofs.probes.Given as goal

abbrev pub invariant-loop-k : goal.invariant-loop-k
invariant-loop-k l = Filled (λ j. expectation l.n (j / l.count) (j % l.count)) l.initial.front l.k l.front
