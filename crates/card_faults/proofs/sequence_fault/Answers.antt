use Rattle.std.proofs.Common.{rules, ◌≡◌, ℕ, ◌+◌, ◌-◌, true, false, Bool, arith, ap, ◌∙◌}
use Rattle.std.proofs.lemmas.Iterator.{first_from_Range}
use Rattle.card_layout.specs.Layout.{Role, faulty, sequence, indices}
use Rattle.card_faults.specs.Walk.{walk}
use Rattle.card_faults.proofs.Walking.{first_of_roles, index_roles, walk_on}
use Rattle.card_faults.proofs.sequence_fault.Goals as goal

pub returns : goal.returns
returns c =
    let s = c.args.card.now in
    let p = c.args.p in
    let role : ℕ → Role = λ q. indices (q - (p + 1)) in
    let bad : ℕ → Bool = λ q. faulty s q (role q) in
    walk_on s p sequence _ (search rules)
    (first_of_roles s role (p + 1) 4 (p + 5) c.find.result (omega arith)
    (first_from_Range _ _ _ _ (λ q. bad q ≡ true) (λ q. bad q ≡ false) c.find.ensures.ran (λ x q k. search rules) (λ x q k. (search rules, search rules)))
    ∙ ap (walk s (p + 1)) (index_roles (p + 1)))
