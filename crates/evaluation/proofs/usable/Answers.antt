use mathlib.Core.Path.{refl, sym, ◌∙◌}
use Rattle.lists.proofs.Choices.{yes, no}
use Rattle.descent.specs.Fit.{usable}
use Rattle.evaluation.proofs.usable.Goals as goal

pub returns-then-is_finite : goal.returns-then-is_finite
unfolding usable
returns-then-is_finite c = yes _ (sym c.is_finite.ensures ∙ c.if-is_finite.true)

pub returns : goal.returns
unfolding usable
returns c = no _ (sym c.is_finite.ensures ∙ c.if-is_finite.false) refl
