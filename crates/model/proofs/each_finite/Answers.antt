use Rattle.std.proofs.Common.{◌+◌, refl, rules, tests, arith, ◌∙◌, true, ◌&&◌}
use Rattle.std.proofs.lemmas.Iterator.{YieldsList-from_range}
use Rattle.std.proofs.lemmas.Iterator.Consumers.{fold_from_yields_List}
use Rattle.numbers.specs.Number.{number, finite}
use Rattle.numbers.specs.Word.{word_at}
use Rattle.model.proofs.Runs.{finite-range}
use Rattle.model.proofs.each_finite.Goals as goal

pub returns : goal.returns
returns c =
    let a = c.args in
    fold_from_yields_List _ (λ all i. all && finite (number (word_at a.card.now (a.from + i)))) true _ c.fold.ensures.ran (YieldsList-from_range 0 a.n a.n refl (omega arith)) (λ all i b q k. search (rules, tests))
    ∙ finite-range a.card.now a.from a.n
