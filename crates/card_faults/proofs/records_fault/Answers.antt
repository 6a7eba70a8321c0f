use Rattle.std.proofs.Common.{rules, ◌+◌, ◌*◌, refl, length, ◌∙◌}
use Rattle.card_layout.specs.Layout.{record_roles}
use Rattle.card_layout.proofs.Lengths.{length-record}
use Rattle.card_faults.specs.Walk.{walk}
use Rattle.card_faults.proofs.Finding.{first_from_find_map}
use Rattle.card_faults.proofs.Walking.{first_of_parts, walk-record}
use Rattle.card_faults.proofs.records_fault.Goals as goal

pub returns : goal.returns
returns c =
    let a = c.args in
    first_of_parts a.card.now a.p a.n (record_roles a.e) c.find_map.result
    (first_from_find_map _ (λ k. walk a.card.now (a.p + k * length (record_roles a.e)) (record_roles a.e)) a.n _ c.find_map.result c.find_map.ensures.runs refl refl (λ x o q h. (search rules, walk-record _ _ _ ∙ rw (length-record a.e) (search rules))))
