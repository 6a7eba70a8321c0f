use mathlib.Core.Path.{refl}
use lib.Ieee.{of_bits}
use Rattle.lists.proofs.Choices.{yes, no}
use Rattle.pivots.specs.Pivots.{magnitude}
use Rattle.pivots.proofs.size_of.Goals as goal

pub returns-then-x : goal.returns-then-x
unfolding magnitude of_bits
returns-then-x c = yes _ c.if-x.true

pub returns-else-x : goal.returns-else-x
unfolding magnitude of_bits
returns-else-x c = no _ c.if-x.false refl
