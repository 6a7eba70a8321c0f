use Rattle.std.proofs.Common.{ℕ, eqb, refl, rules, tests, arith, ap, ap₂, ◌∙◌, ◌||◌}
use Rattle.std.proofs.lemmas.Iterator.{YieldsList-from_range}
use Rattle.std.proofs.lemmas.Iterator.Search.{any_from_yields_List}
use Rattle.model.proofs.Tests.{any-range, any-apart}
use Rattle.model.proofs.bad_name.Goals as goal

pub returns : goal.returns
returns g c =
    let m = g.M.Tested.parts c.args.m.now in
    let n = c.args.g in
    ap₂ ◌||◌ (ap (λ (w : ℕ). eqb w 0) c.name-name.ensures)
    (any_from_yields_List (λ j. eqb (m.name j) (m.name n)) _ _ _ c.any.ensures.ran (YieldsList-from_range 0 n n refl (omega arith)) (λ x b q k. search (rules, tests))
    ∙ any-range n _)
    ∙ any-apart _ n _
