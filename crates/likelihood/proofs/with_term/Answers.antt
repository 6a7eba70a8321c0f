use Rattle.std.proofs.Common.{refl}
use Rattle.lists.proofs.Choices.{no}
use Rattle.likelihood.specs.Multinomial.{with_term}
use Rattle.likelihood.proofs.with_term.Goals as goal

pub returns-then-p : goal.returns-then-p
unfolding with_term
returns-then-p c = rw (c.if-c.true, c.if-p.true)

pub returns-then-c : goal.returns-then-c
unfolding with_term
returns-then-c c = rw (c.if-c.true, c.if-p.false, c.plus_term.ensures)

pub returns : goal.returns
unfolding with_term
returns c = no _ c.if-c.false refl
