use Rattle.std.proofs.Common.{sym, ◌∙◌}
use Rattle.lists.proofs.Choices.{yes, no}
use Rattle.pivots.specs.Pivots.{stays_largest}
use Rattle.pivots.proofs.stays_largest.Goals as goal

pub returns-then-x-s : goal.returns-then-x-s
unfolding stays_largest
returns-then-x-s c = yes _ c.if-x-s.true

pub returns-then-is_nan : goal.returns-then-is_nan
unfolding stays_largest
returns-then-is_nan c = no _ c.if-x-s.false (yes _ (sym c.is_nan.ensures.value ∙ c.if-is_nan.true))

pub returns : goal.returns
unfolding stays_largest
returns c = no _ c.if-x-s.false (no _ (sym c.is_nan.ensures.value ∙ c.if-is_nan.false) c.is_nan-2.ensures.value)
