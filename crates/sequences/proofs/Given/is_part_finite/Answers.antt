use Rattle.std.proofs.Common.{refl, ap, ◌∙◌}
use Rattle.lists.proofs.Parts.{part-lent}
use Rattle.numbers.specs.Slice.{all_finite}
use Rattle.sequences.proofs.Given.is_part_finite.Goals as goal

pub returns : goal.returns
returns c =
    let a = c.args in
    c.all_finite.ensures ∙ ap all_finite (part-lent a.from _ a.n a.self.now.numbers.now refl)
