use Prim.Native.Nat.{◌+◌, ◌*◌, ◌≤◌}
use mathlib.Core.Logic.{◌⊎◌}
use mathlib.Core.Path.{◌≡◌}
use Rattle.lists.specs.Build.{build}
use Rattle.magnitudes.specs.Kept.{largest_in}
use Rattle.magnitudes.proofs.Magnitudes.eight_columns.Given as goal

abbrev pub invariant-loop-j : goal.invariant-loop-j
invariant-loop-j l = (l.largest ≡ build 8 (largest_in l.j l.self.cells l.half)) × ((l.j ≡ l.half * 8 + 1) ⊎ (l.j ≤ l.n))
