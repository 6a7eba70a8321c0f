use mathlib.Core.Path.{refl, sym, ◌∙◌}
use native.Mathlib.Omega.{arith}
use Rattle.lists.proofs.Folding.{fold-none, fold_more}
use Rattle.model_words.specs.Words.{numbers_of}
use Rattle.model_words.proofs.Sizes.{length-model}
use Rattle.objective.proofs.Puts.{put_all}
use Rattle.objective.proofs.fill.Goals as goal

pub loop-i-init : goal.loop-i-init
loop-i-init c = fold-none _ _

pub loop-i-preserved : goal.loop-i-preserved
loop-i-preserved c = fold_more _ _ _ _ _ c.loop-i.invariant refl

pub returns : goal.returns
returns c =
    let a = c.args in
    let k = a.card.now in
    put_all a.places.now a.xs.now (numbers_of k.bytes.now k.header) a.model.now _ _ _ (omega arith) c.requires.1 (length-model _ _ ∙ sym c.requires.2) c.load.ensures c.loop-i.invariant
