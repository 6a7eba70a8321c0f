use mathlib.Core.Path.{◌∙◌}
use native.Mathlib.Omega.{arith}
use Rattle.lists.proofs.Chains.{build-replicate}
use Rattle.lists.proofs.Folding.{fold-none}
use Rattle.choi.proofs.Steps.{cleared}
use Rattle.choi.proofs.Sums.{choi-is}
use Rattle.choi.proofs.Sizes.choi.Goals as goal

pub loop-b-init : goal.loop-b-init
loop-b-init c =
    let a = c.args in
    cleared _ _ a.out.now _ a.self.sides.strings c.requires.1 (c.fill.ensures.after (λ y e. e) ∙ build-replicate _ _) ∙ fold-none _ _

pub returns : goal.returns
returns c = choi-is _ _ _ _ _ c.loop-b.b c.args.self.sides c.requires.0 c.requires.2 c.type_inv.values (omega arith) c.loop-b.invariant
