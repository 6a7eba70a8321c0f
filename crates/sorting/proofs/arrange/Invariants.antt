use mathlib.Core.Path.{◌≡◌}
use lib.ListN.{take}
use Rattle.sorting.specs.Sort.{order_by}
use Rattle.sorting.proofs.arrange.Given as goal

abbrev pub invariant-loop-k : goal.invariant-loop-k
invariant-loop-k l = take l.k l.order ≡ order_by l.falling l.w l.k
