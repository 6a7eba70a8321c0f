use Rattle.std.proofs.Common.{ℕ, map, ap, rules, tests, arith, ◌∙◌}
use Rattle.std.proofs.lemmas.Iterator.{YieldsList-from_range, YieldsList-from_map}
use Rattle.std.proofs.lemmas.Iterator.Adapters.{total_from_yields_List}
use lib.Ieee.{Float, of_bits}
use Rattle.std.specs.List.{fold as chain}
use Rattle.lists.proofs.Chains.{build-range, map-build, fold-build}
use Rattle.numbers.specs.Number.{one_f, ◌*ᶠ◌}
use Rattle.designs.specs.Digit.{digit_of}
use Rattle.designs.specs.Probes.{local, expectation}
use Rattle.designs.proofs.expectation.Goals as goal

pub returns : goal.returns
unfolding of_bits expectation
returns c =
    let n = c.args.n in
    let f : ℕ → Float = λ q. local (digit_of 4 n c.args.probe q) (digit_of 4 n c.args.string q) in
    total_from_yields_List (λ x y. x *ᶠ y) one_f _ c.product.ensures.ran
    (YieldsList-from_map _ f (YieldsList-from_range 0 n n c.map.ensures.source (omega arith)) c.map.ensures.closure (λ x r q k. search (rules, tests)))
    ∙ ap (chain (λ x y. x *ᶠ y) one_f) (ap (map f) (build-range n) ∙ map-build f n (λ i. i))
    ∙ fold-build (λ x y. x *ᶠ y) one_f n f
