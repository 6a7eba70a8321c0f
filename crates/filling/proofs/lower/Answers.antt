use native.Mathlib.Omega.{arith}
use lib.Ieee.{nan}
use Rattle.lists.proofs.Filling.{fill_none, fill-all, map_more}
use Rattle.numbers.specs.Number.{max, zero_f, ◌-ᶠ◌}
use Rattle.filling.specs.Filling.{lowered}
use borrow.Author.Rules.{rules}
use Rattle.filling.proofs.lower.Goals as goal

pub loop-x-init : goal.loop-x-init
loop-x-init c = fill_none _ _

pub loop-x-preserved : goal.loop-x-preserved
loop-x-preserved c =
    let s = c.args in
    map_more nan (λ _ x. max (x -ᶠ s.t) zero_f) s.w.now _ _ _ (search rules) c.loop-x.invariant c.max_of.ensures

pub returns : goal.returns
unfolding lowered
returns c = fill-all _ _ _ _ (omega arith) c.loop-x.invariant
