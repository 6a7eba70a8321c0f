use Rattle.physical.specs.Physical.{unit_at}
use Rattle.lists.proofs.Choices.{yes, no}
use borrow.Author.Tests.{eq-eqb, ne_eqb}
use mathlib.Core.Path.{refl}
use Rattle.physical.proofs.unit_at.Goals as goal

pub returns-then-k-eq0 : goal.returns-then-k-eq0
unfolding unit_at
returns-then-k-eq0 c = yes _ (eq-eqb _ _ c.if-k-eq0.true)

pub returns-else-k-eq0 : goal.returns-else-k-eq0
unfolding unit_at
returns-else-k-eq0 c = no _ (ne_eqb _ _ c.if-k-eq0.false) refl
