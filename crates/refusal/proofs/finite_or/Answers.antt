use mathlib.Core.Path.{refl, sym, ◌∙◌}
use Rattle.lists.proofs.Choices.{yes, no}
use Rattle.refusal.specs.Verdicts.{finite_or}
use Rattle.refusal.proofs.finite_or.Goals as goal

pub returns-then-all_finite : goal.returns-then-all_finite
unfolding finite_or
returns-then-all_finite c = yes _ (sym c.all_finite.ensures ∙ c.if-all_finite.true)

pub returns : goal.returns
unfolding finite_or
returns c = no _ (sym c.all_finite.ensures ∙ c.if-all_finite.false) refl
