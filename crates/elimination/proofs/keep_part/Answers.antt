use mathlib.Core.Path.{◌∙◌}
use borrow.Author.Tests.{eq-eqb, ne_eqb}
use Rattle.lists.proofs.Choices.{yes, no}
use Rattle.elimination.specs.Kept.{kept_part}
use Rattle.elimination.proofs.keep_part.Goals as goal

pub returns-then-i-k : goal.returns-then-i-k
unfolding kept_part
returns-then-i-k c = c.copy_from_slice.ensures.after ∙ yes _ (eq-eqb _ _ c.if-i-k.true)

pub returns-else-i-k : goal.returns-else-i-k
unfolding kept_part
returns-else-i-k c = no _ (ne_eqb _ _ c.if-i-k.false) c.subtract_row.ensures
