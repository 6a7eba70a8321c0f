use Rattle.std.proofs.Common.{◌*◌, refl, rules, tests, arith, ◌∙◌}
use Rattle.std.proofs.lemmas.Iterator.{YieldsList-from_range}
use Rattle.std.proofs.lemmas.Iterator.Search.{all_from_yields_List}
use Rattle.numbers.specs.Slice.{at}
use Rattle.physical.specs.Physical.{unit_at, near}
use Rattle.physical.proofs.Units.{near-range}
use Rattle.physical.proofs.is_near_unit.Goals as goal

pub returns : goal.returns
returns c =
    let a = c.args in
    all_from_yields_List (λ k. near a.tolerance (at a.values.now (k * a.step)) (unit_at k)) _ _ _ c.all.ensures.ran (YieldsList-from_range 0 a.p a.p refl (omega arith)) (λ x b q k. search (rules, tests))
    ∙ near-range a.p a.tolerance (λ k. at a.values.now (k * a.step))
