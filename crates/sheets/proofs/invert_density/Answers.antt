use Rattle.sheets.proofs.Shown.{two-most}
use Rattle.numbers.proofs.Slices.{length-numbers}
use Rattle.numbers.specs.Slice.{numbers_at}
use Rattle.lists.proofs.Parts.{front_length}
use native.Mathlib.Omega.{arith}
use mathlib.Core.Path.{◌∙◌}
use Rattle.sheets.proofs.invert_density.Goals as goal

pub linear_inversion-requires : goal.linear_inversion-requires
linear_inversion-requires c =
    (c.requires.0, front_length (numbers_at c.args.card.now 2 _) _ c.load.ensures (length-numbers _ _ _) ∙ c.four_to-count.ensures.0, omega (arith, two-most c.args.n c.requires.0, c.requires.2))
