use Rattle.std.proofs.Common.{◌+◌, ◌*◌, refl, sym, rules, tests, arith, ◌∙◌}
use Rattle.std.proofs.lemmas.Iterator.{YieldsList-from_range}
use Rattle.std.proofs.lemmas.Iterator.Search.{all_from_yields_List}
use Rattle.numbers.specs.Number.{number, finite}
use Rattle.model.specs.Shown.{bits_together}
use Rattle.model.proofs.Shown.{eights-shown}
use Rattle.model.proofs.eights_shown.Goals as goal

pub returns : goal.returns
returns c =
    let a = c.args in
    let l = all_from_yields_List (λ i. finite (number (bits_together a.card.now (a.from + i * 8) 8))) _ _ c.all.result c.all.ensures.ran (YieldsList-from_range 0 a.count a.count refl (omega arith)) (λ x b q k. search (rules, tests)) in
    λ h. eights-shown a.card.now a.from a.count (sym l ∙ h)
