use mathlib.Core.Path.{refl}
use native.Mathlib.Omega.{arith}
use Rattle.lists.proofs.Filling.{fill_none, fill_more, fill-all}
use Rattle.search.proofs.trial.Goals as goal

pub loop-i-init : goal.loop-i-init
loop-i-init c = fill_none _ _

pub loop-i-preserved : goal.loop-i-preserved
loop-i-preserved c = fill_more _ _ _ _ _ (omega arith) c.loop-i.invariant refl

pub returns : goal.returns
returns c = fill-all _ _ _ _ (omega arith) c.loop-i.invariant
