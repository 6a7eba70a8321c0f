use lib.Ieee.{neg, of_bits}
use Rattle.std.proofs.lemmas.Iterator.{YieldsList-from_slice}
use Rattle.std.proofs.lemmas.Iterator.Adapters.{total_from_yields_List}
use Rattle.numbers.specs.Number.{◌+ᶠ◌, minus_zero_f}
use Rattle.filling.proofs.Counting.{threshold-is}
use Rattle.filling.proofs.threshold.Goals as goal

pub returns : goal.returns
unfolding neg of_bits
returns c =
    let a = c.active_count-active.ensures in
    threshold-is _ _ _ _ a.0 a.1 (total_from_yields_List (λ sum x. sum +ᶠ x) minus_zero_f _ c.sum.ensures.ran (YieldsList-from_slice _ c.iter.ensures.rest)) c.excess.ensures
