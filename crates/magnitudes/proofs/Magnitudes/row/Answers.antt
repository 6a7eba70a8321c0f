use native.Mathlib.Omega.{arith}
use Rattle.lists.proofs.Folding.{fold_end}
use Rattle.magnitudes.specs.Kept.{row_found}
use Rattle.magnitudes.proofs.Magnitudes.row.Goals as goal

pub returns : goal.returns
unfolding row_found
returns c = fold_end _ _ _ _ _ (omega (arith, c.loop-q-test.false, c.loop-q.auto.q, c.loop-q.auto.q-end, c.requires.1)) c.loop-q.invariant
