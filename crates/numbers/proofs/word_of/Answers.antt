use mathlib.Core.Path.{sym, ap}
use lib.Ieee.{binary64, to_bits}
use Rattle.numbers.proofs.Leaves.{only_nan}
use Rattle.numbers.proofs.word_of.Goals as goal

pub returns-then-is_nan : goal.returns-then-is_nan
unfolding to_bits
returns-then-is_nan c = sym (ap (to_bits binary64) (only_nan _ (sym c.if-is_nan.ensures.value)))
