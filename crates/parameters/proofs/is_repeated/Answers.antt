use Rattle.std.proofs.Common.{eqb, refl, rules, tests, arith, ◌∙◌}
use Rattle.std.proofs.lemmas.Iterator.{YieldsList-from_range}
use Rattle.std.proofs.lemmas.Iterator.Search.{any_from_yields_List}
use Rattle.numbers.specs.Word.{word_at}
use Rattle.card_places.specs.Places.{coordinate_at}
use Rattle.model.proofs.Tests.{any-range}
use Rattle.parameters.specs.Parameters.{repeated}
use Rattle.parameters.proofs.is_repeated.Goals as goal

pub returns : goal.returns
unfolding repeated
returns c =
    let s = c.args.card.now.bytes.now in
    let h = c.args.card.now.header in
    let i = c.args.i in
    any_from_yields_List (λ j. eqb (word_at s (coordinate_at h j)) (word_at s (coordinate_at h i))) _ _ _ c.any.ensures.ran (YieldsList-from_range 0 i i refl (omega arith)) (λ x b q k. search (rules, tests))
    ∙ any-range i _
