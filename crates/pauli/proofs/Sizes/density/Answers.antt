use mathlib.Core.Path.{◌∙◌, ap}
use native.Mathlib.Omega.{arith}
use borrow.Author.Rules.{rules}
use Rattle.lists.proofs.Chains.{build-replicate}
use Rattle.numbers.specs.Number.{finite}
use Rattle.numbers.proofs.Finite.{each-finite}
use Rattle.pauli.specs.Density.{weight, pinned}
use Rattle.pauli.proofs.Sums.{size_in, strings-none, strings-more, strings-all, weight-finite}
use Rattle.pauli.proofs.Sizes.density.Goals as goal

pub loop-code-init : goal.loop-code-init
loop-code-init c = strings-none _ _ _ c.args.out.now _ c.args.self.side c.requires.1 (c.fill.ensures.after (λ y e. e) ∙ build-replicate _ _)

pub add_string-requires : goal.add_string-requires
unfolding weight pinned
add_string-requires c =
    let l = c.loop-code in
    let s = c.args.self in
    let es = c.args.es.now in
    let i = l.code in
    let e = each-finite es i c.requires.2 (search rules) in
    (size_in _ _ l.out s.side l.invariant.size, ap finite c.weight_of.ensures ∙ weight-finite _ _ es i s.few s.side (c.type_inv.es i) e, l.invariant.plain)

pub loop-code-preserved : goal.loop-code-preserved
unfolding weight pinned
loop-code-preserved c = strings-more _ _ _ _ _ _ _ c.args.self.side c.weight_of.ensures c.loop-code.invariant c.add_string.ensures

pub returns : goal.returns
returns c = strings-all _ _ _ _ (omega arith) c.loop-code.invariant
