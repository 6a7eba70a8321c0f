use Prim.Native.Nat.{ℕ, ◌+◌}
use mathlib.Core.Path.{ap}
use native.Mathlib.Omega.{arith}
use Rattle.lists.proofs.Filling.{fill_none, fill_more, fill-all}
use Rattle.designs.proofs.Sizes.{front-built}
use Rattle.designs.specs.Settings.{setting_of}
use borrow.Author.Rules.{rules}
use Rattle.designs.proofs.setting.Goals as goal

pub loop-qubit-init : goal.loop-qubit-init
loop-qubit-init c = fill_none _ _

pub loop-qubit-preserved : goal.loop-qubit-preserved
loop-qubit-preserved c = fill_more _ _ _ _ _ (search rules) c.loop-qubit.invariant (ap (λ (d : ℕ). d + 1) c.digit.ensures.0)

pub returns : goal.returns
unfolding setting_of
returns c = front-built _ _ _ _ (omega arith) (fill-all _ _ _ _ (omega arith) c.loop-qubit.invariant)
