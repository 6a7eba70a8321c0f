use Prim.Native.Nat.{◌-◌, ◌+◌}
use mathlib.Core.Path.{◌≡◌}
use Rattle.lists.specs.Fold.{fold}
use Rattle.complex.specs.Arithmetic.{magnitude}
use Rattle.entries.specs.Entries.{entries, entry_at}
use Rattle.magnitudes.specs.Kept.{put}
use Rattle.magnitudes.proofs.Magnitudes.fill_row.Given as goal

abbrev pub invariant-loop-j : goal.invariant-loop-j
invariant-loop-j l = l.self.cells ≡ fold (l.j - (l.i + 1)) (λ d. put l.i (l.i + 1 + d) (magnitude (entry_at l.n (entries l.a) l.i (l.i + 1 + d)))) l.initial.self.cells
