use mathlib.Core.Path.{sym, ◌∙◌}
use native.Mathlib.Omega.{arith}
use lib.Ieee.{nan}
use Rattle.lists.proofs.Chains.{build-map}
use Rattle.lists.proofs.Filling.{fill_none, fill_more, fill-all}
use Rattle.root.specs.Root.{sqrt}
use Rattle.complex.proofs.roots.Goals as goal

pub loop-i-init : goal.loop-i-init
loop-i-init g c = fill_none _ _

pub loop-i-preserved : goal.loop-i-preserved
loop-i-preserved g c = fill_more _ _ _ _ _ (omega (arith, c.loop-i-test.true, c.requires.0)) c.loop-i.invariant c.sqrt.ensures.value

pub returns : goal.returns
returns g c = fill-all _ _ _ _ (omega (arith, c.loop-i-test.false, c.loop-i.auto.i-end, c.requires.0)) c.loop-i.invariant ∙ sym (build-map nan sqrt c.args.x)
