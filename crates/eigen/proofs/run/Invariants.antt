use Prim.Native.Nat.{◌-◌}
use mathlib.Core.Path.{◌≡◌}
use Rattle.entries.specs.Entries.{entries}
use Rattle.eigen.specs.Steps.{jacobi_with}
use Rattle.eigen.proofs.Running.{Right}
use Rattle.eigen.proofs.run.Given as goal

abbrev pub invariant-loop : goal.invariant-loop
invariant-loop l =
    Right l.n (entries l.a) l.kept.cells × (jacobi_with (l.rotations - l.counter) l.r l.n l.limit (entries l.a) (entries l.v) ≡ jacobi_with l.rotations l.r l.n l.limit (entries l.initial.a) (entries l.initial.v))
