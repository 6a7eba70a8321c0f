use mathlib.Core.List.{List, ◌++◌}
use mathlib.Core.Path.{refl, ◌∙◌, ap₂}
use lib.Ieee.{Float}
use Rattle.magnitudes.proofs.Loops.{both, halves-joined}
use Rattle.magnitudes.proofs.Magnitudes.columns.Goals as goal

pub returns : goal.returns
returns c =
    halves-joined _ _ _ c.copy_from_slice.ensures.len refl
    ∙ ap₂ (λ (x y : List Float). x ++ y) (c.copy_from_slice.ensures.after ∙ c.eight_columns.ensures) (c.copy_from_slice-2.ensures.after ∙ c.eight_columns-2.ensures)
    ∙ both _ _
