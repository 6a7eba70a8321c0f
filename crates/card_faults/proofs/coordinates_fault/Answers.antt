use Rattle.std.proofs.Common.{rules, ℕ, Bool, ◌≡◌, ◌+◌, refl, true, false, ap, sym, ◌∙◌}
use Rattle.std.proofs.lemmas.Iterator.{first_from_Range}
use Rattle.card_layout.specs.Layout.{faulty, coordinate}
use Rattle.card_faults.specs.Walk.{walk}
use Rattle.card_faults.proofs.Walking.{first_of_roles, times_roles}
use Rattle.card_faults.proofs.coordinates_fault.Goals as goal

pub returns : goal.returns
returns c =
    let a = c.args in
    let at : ℕ → Bool = λ q. faulty a.card.now q coordinate in
    first_of_roles a.card.now (λ q. coordinate) a.p a.n (a.p + a.n) c.find.result refl
    (first_from_Range _ _ _ _ (λ q. at q ≡ true) (λ q. at q ≡ false) c.find.ensures.ran (λ x q k. search rules) (λ x q k. (search rules, search rules)))
    ∙ ap (walk a.card.now a.p) (sym (times_roles coordinate a.p a.n))
