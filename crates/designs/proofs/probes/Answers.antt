use Rattle.designs.proofs.Sizes.{square, front-built}
use native.Mathlib.Omega.{arith}
use Rattle.lists.proofs.Filling.{fill_none, fill_more, fill-all}
use Rattle.designs.specs.Probes.{probes_of}
use borrow.Author.Rules.{rules}
use Rattle.designs.proofs.probes.Goals as goal

pub loop-k-init : goal.loop-k-init
loop-k-init c = fill_none _ _

pub loop-k-preserved : goal.loop-k-preserved
loop-k-preserved c = fill_more _ _ _ _ _ (search rules) c.loop-k.invariant c.expectation.ensures

pub returns : goal.returns
unfolding probes_of
returns c =
    let f = c.four_to-count.ensures in
    rw (← f.0) (front-built _ _ _ _ (omega (arith, (square f.0 f.1).all)) (fill-all _ _ _ _ (omega arith) c.loop-k.invariant))
