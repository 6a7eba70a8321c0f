use lib.ListN.{get_or}
use lib.Ieee.{nan}
use Rattle.lists.proofs.Filling.{Filled}
use Rattle.root.specs.Root.{sqrt}
use Rattle.complex.proofs.roots.Given as goal

abbrev pub invariant-loop-i : goal.invariant-loop-i
invariant-loop-i g l = Filled (λ j. sqrt (get_or l.x j nan)) l.initial.y-items l.i l.y-items
