use mathlib.Core.Path.{◌≡◌, ap, ◌∙◌}
use native.Mathlib.Omega.{arith}
use lib.ListN.{length, take}
use lib.Ieee.{Float, neg, of_bits, nan}
use lib.Seq.{length-take-le, get_or-take}
use Rattle.lists.proofs.Chains.{fold-zip}
use Rattle.numbers.specs.Number.{minus_zero_f, ◌+ᶠ◌, ◌*ᶠ◌}
use Rattle.numbers.specs.Slice.{at}
use Rattle.matrix.specs.Product.{sum_of, dot_of}
use Rattle.matrix.proofs.Sums.{sum_same}
use borrow.Author.Rules.{rules}
use Rattle.matrix.proofs.dot.Goals as goal

pub returns : goal.returns
unfolding neg of_bits dot_of sum_of
returns c =
    let a = c.args.a.now in
    let b = c.args.b.now in
    let k : length (take (length a) b) ≡ length a = length-take-le _ _ (search rules) in
    c.with_products.ensures
    ∙ fold-zip (λ s p. s +ᶠ p.0 *ᶠ p.1) minus_zero_f nan nan (length a) a (take (length a) b) (omega arith)
    ∙ sum_same (length a) (λ j. at a j *ᶠ at (take (length a) b) j) (λ j. at a j *ᶠ at b j) (λ j l. ap (λ (t : Float). at a j *ᶠ t) (get_or-take (length a) b j nan l))
