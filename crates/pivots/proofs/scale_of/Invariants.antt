use Prim.Native.Nat.{◌*◌}
use mathlib.Core.Path.{◌≡◌}
use Rattle.pivots.specs.Pivots.{scale_of}
use Rattle.pivots.proofs.scale_of.Given as goal

abbrev pub invariant-loop-i : goal.invariant-loop-i
invariant-loop-i l = l.s ≡ scale_of (l.i * l.n) l.a
