use Rattle.std.proofs.Common.{refl, rules, tests, arith, ap₂, ◌∙◌, not, ◌||◌}
use Rattle.std.proofs.lemmas.Iterator.{YieldsList-from_range}
use Rattle.std.proofs.lemmas.Iterator.Search.{any_from_yields_List}
use Rattle.numbers.specs.Slice.{all_finite}
use Rattle.model.proofs.Tests.{any-range, any-apart}
use Rattle.model.proofs.bad_gate.Goals as goal

pub returns : goal.returns
returns g c =
    let m = g.M.Tested.parts c.args.m.now in
    ap₂ ◌||◌ c.bad_effect.ensures
    (any_from_yields_List (λ k. not (all_finite (m.gate k))) _ _ _ c.any.ensures.ran (YieldsList-from_range 0 _ m.gates refl (omega (arith, c.gates.ensures))) (λ x b q k. search (rules, tests))
    ∙ any-range m.gates _)
    ∙ any-apart _ m.gates _
