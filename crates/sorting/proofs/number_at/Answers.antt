use mathlib.Core.Path.{sym}
use lib.ListN.{get_or-eq_default}
use lib.Ieee.{nan, div, of_bits}
use Rattle.sorting.proofs.number_at.Goals as goal

pub returns-else-i-w : goal.returns-else-i-w
unfolding div of_bits
returns-else-i-w c = sym (get_or-eq_default c.args.w.now nan c.if-i-w.false)
