use native.Mathlib.Omega.{arith}
use Rattle.lists.proofs.Folding.{fold_end}
use Rattle.choi.specs.Sparse.{with_pair}
use Rattle.choi.proofs.Sizes.add_pair.Goals as goal

pub returns : goal.returns
unfolding with_pair
returns c = fold_end _ c.loop-j.j _ _ _ (omega (arith, c.args.self.sides.side)) c.loop-j.invariant
