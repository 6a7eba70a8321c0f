use mathlib.Core.Path.{sym, subst}
use lib.Dec.{T}
use Rattle.numbers.proofs.Leaves.{only_nan, nan-abs, abs_word, abs-no-nan}
use Rattle.numbers.proofs.abs_of.Goals as goal

pub returns-then-is_nan : goal.returns-then-is_nan
returns-then-is_nan c = nan-abs _ (only_nan _ (sym c.if-is_nan.ensures.value))

pub float_from_bits-result : goal.float_from_bits-result
float_from_bits-result c = abs-no-nan _ (subst T (sym c.well_formed.0.1) tt) c.if-is_nan.ensures.not_nan

pub returns : goal.returns
returns c = abs_word _ (subst T (sym c.well_formed.0.1) tt) c.if-is_nan.ensures.not_nan
