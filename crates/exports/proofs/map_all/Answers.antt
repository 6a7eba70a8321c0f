use Rattle.std.proofs.Common.{rules}
use native.Mathlib.Omega.{arith}
use Rattle.lists.proofs.Filling.{fill_none, fill_more, fill-front}
use Rattle.exports.proofs.map_all.Goals as goal

pub loop-i-init : goal.loop-i-init
loop-i-init g c = λ h same. fill_none _ _

pub loop-i-preserved : goal.loop-i-preserved
loop-i-preserved g c = λ h same. fill_more _ _ _ _ _ (omega arith) (c.loop-i.invariant h same) (same _ _ c.f.ensures)

pub returns : goal.returns
returns g c = λ h same. record { count = search rules; numbers = fill-front _ _ _ c.loop-i.i _ (omega arith) (omega arith) (c.loop-i.invariant h same) }
