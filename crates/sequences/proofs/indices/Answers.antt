use Rattle.std.proofs.Common.{length, take, refl, ap, ◌∙◌, arith, rules}
use Rattle.lists.proofs.Filling.{fill_none, fill_more, fill_end, build-all, take-build}
use Rattle.sequences.proofs.indices.Goals as goal

pub loop-k-init : goal.loop-k-init
loop-k-init c = (search rules, fill_none _ _)

pub loop-k-preserved : goal.loop-k-preserved
loop-k-preserved c = (search rules, fill_more _ _ _ _ _ (omega arith) c.loop-k.invariant.1 refl)

pub returns : goal.returns
returns c =
    let s = c.args.sequence.now in
    (search rules, ap (take (length s)) (fill_end _ _ _ (length s) _ (omega arith) c.loop-k.invariant.1) ∙ take-build (length s) _ _ ∙ build-all 0 s)
