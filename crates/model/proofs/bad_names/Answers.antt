use Rattle.std.proofs.Common.{refl, rules, tests, arith, ◌∙◌}
use Rattle.std.proofs.lemmas.Iterator.{YieldsList-from_range}
use Rattle.std.proofs.lemmas.Iterator.Search.{any_from_yields_List}
use Rattle.model.specs.Checked.{bad_name}
use Rattle.model.proofs.Tests.{any-range}
use Rattle.model.proofs.bad_names.Goals as goal

pub returns : goal.returns
returns g c =
    let m = g.M.Tested.parts c.args.m.now in
    any_from_yields_List (bad_name m.name) _ _ _ c.any.ensures.ran (YieldsList-from_range 0 _ m.gates refl (omega (arith, c.gates.ensures))) (λ x b q k. search (rules, tests))
    ∙ any-range m.gates _
