use native.Mathlib.Omega.{arith}
use Rattle.lists.proofs.Folding.{fold_end}
use Rattle.entries.proofs.Pairs.{length-entries}
use Rattle.entries.proofs.Laying.{laid-whole}
use Rattle.eigen.specs.Jacobi.{columns_in}
use Rattle.eigen.proofs.columns.Goals as goal

pub returns : goal.returns
unfolding columns_in
returns c = laid-whole _ _ _ _ _ (length-entries _ _ c.requires.0) (fold_end _ _ _ _ _ (omega arith) c.loop-i.invariant)
