use Rattle.std.proofs.Common.{refl, rules, tests, arith, ◌∙◌, not}
use Rattle.std.proofs.lemmas.Iterator.{YieldsList-from_range}
use Rattle.std.proofs.lemmas.Iterator.Search.{any_from_yields_List}
use Rattle.numbers.specs.Slice.{all_finite}
use Rattle.model.proofs.Tests.{any-range}
use Rattle.model.proofs.bad_effect.Goals as goal

pub returns : goal.returns
returns g c =
    let m = g.M.Tested.parts c.args.m.now in
    any_from_yields_List (λ k. not (all_finite (m.effect k))) _ _ _ c.any.ensures.ran (YieldsList-from_range 0 _ m.effects refl (omega (arith, c.effects.ensures))) (λ x b q k. search (rules, tests))
    ∙ any-range m.effects _
