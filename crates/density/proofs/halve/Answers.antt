use native.Mathlib.Omega.{arith}
use Rattle.lists.proofs.Folding.{fold_end}
use Rattle.entries.proofs.Pairs.{length-entries}
use Rattle.entries.proofs.Laying.{laid-whole}
use Rattle.density.specs.Projection.{halved}
use Rattle.density.proofs.halve.Goals as goal

pub returns : goal.returns
unfolding halved
returns c = laid-whole _ _ _ _ _ (length-entries _ _ c.requires.1) (fold_end _ _ _ _ _ (omega arith) c.loop-i.invariant)
