use mathlib.Core.Path.{refl}
use native.Mathlib.Omega.{arith}
use Rattle.lists.proofs.Filling.{fill_none, fill_more, fill-all}
use Rattle.numbers.proofs.gather.Goals as goal

pub loop-k-init : goal.loop-k-init
loop-k-init c = fill_none _ _

pub loop-k-preserved : goal.loop-k-preserved
loop-k-preserved c = fill_more _ _ _ _ _ (omega arith) c.loop-k.invariant refl

pub returns : goal.returns
returns c = fill-all _ _ c.loop-k.k _ (omega arith) c.loop-k.invariant
