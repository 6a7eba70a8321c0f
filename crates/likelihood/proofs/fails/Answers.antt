use Rattle.std.proofs.Common.{false, ◌∙◌}
use Rattle.std.proofs.lemmas.Iterator.{YieldsList-from_slice}
use Rattle.std.proofs.lemmas.Iterator.Adapters.{total_from_yields_List}
use lib.Ieee.{nan, neg, of_bits}
use Rattle.lists.proofs.Chains.{fold-list}
use Rattle.numbers.specs.Number.{minus_zero_f, ◌+ᶠ◌}
use Rattle.matrix.specs.Product.{sum_of}
use Rattle.likelihood.specs.Multinomial.{any_bad, failing}
use Rattle.likelihood.proofs.fails.Goals as goal

pub returns-then-any_bad : goal.returns-then-any_bad
unfolding failing any_bad
returns-then-any_bad c =
    let e = c.any_bad.ensures ∙ fold-list _ false nan c.args.ps.now in
    rw (← e, c.if-any_bad.true)

pub returns-else-any_bad : goal.returns-else-any_bad
unfolding neg of_bits failing any_bad sum_of
returns-else-any_bad c =
    let e = c.any_bad.ensures ∙ fold-list _ false nan c.args.ps.now in
    let s = total_from_yields_List (λ s x. s +ᶠ x) minus_zero_f _ c.sum.ensures.ran (YieldsList-from_slice _ c.iter.ensures.rest) ∙ fold-list _ minus_zero_f nan c.args.ps.now in
    rw (← e, c.if-any_bad.false, c.abs_of.ensures, s)
