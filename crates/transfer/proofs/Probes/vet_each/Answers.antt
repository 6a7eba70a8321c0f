use Rattle.std.proofs.Common.{sym, ap, ◌∙◌, arith}
use lib.ListN.{length, length-append}
use Rattle.std.specs.Slice.Iter.{chunks_exact_rest, chunks_exact_size}
use Rattle.pauli.specs.Density.{vet_of}
use Rattle.refusal.proofs.Verdicts.{tested-none, tested-more, tested-ends, tested-all, passed_on}
use Rattle.transfer.proofs.Vectors.{from-first, next-vector, no-vector}
use Rattle.transfer.specs.Vectors.{vetted_of}
use Rattle.transfer.proofs.Probes.vet_each.Goals as goal

pub loop-v-init : goal.loop-v-init
loop-v-init c =
    let q = c.into_iter-v-iterator.ensures.into_iter_gives in
    (tested-none _, omega arith, ap chunks_exact_rest q ∙ c.chunks_exact-v-items.ensures.rest ∙ from-first _ _, ap chunks_exact_size q ∙ c.chunks_exact-v-items.ensures.size)

pub loop-v-preserved : goal.loop-v-preserved
loop-v-preserved c =
    let i = c.loop-v.invariant in
    let s = c.in-Some.ensures.steps in
    let n = next-vector _ _ (omega (arith, c.args.self.now.some, c.requires)) (rw (← c.requires) at c.args.self.now.whole) _ _ _ (sym i.2 ∙ s.1.0) (s.1.1 ∙ i.3) in
    let v = ap (vet_of c.args.self.now.tolerance) n.1 in
    rw (length-append c.loop-v.yielded _) (tested-more _ _ i.0 (sym (c.in_ok-vet.ensures ∙ v)), n.0, n.2, s.0 ∙ i.3)

pub returns-in_err-vet : goal.returns-in_err-vet
unfolding vetted_of
returns-in_err-vet c =
    let i = c.loop-v.invariant in
    let s = c.in-Some.ensures.steps in
    let n = next-vector _ _ (omega (arith, c.args.self.now.some, c.requires)) (rw (← c.requires) at c.args.self.now.whole) _ _ _ (sym i.2 ∙ s.1.0) (s.1.1 ∙ i.3) in
    passed_on c.from_residual.ensures.1 (sym (tested-ends _ _ (length c.loop-v.yielded) _ (omega (arith, n.0)) i.0 (sym (c.in_err-vet.ensures ∙ ap (vet_of c.args.self.now.tolerance) n.1))))

pub returns : goal.returns
unfolding vetted_of
returns c =
    let i = c.loop-v.invariant in
    let s = c.in-None.ensures.steps in
    tested-all _ _ _ (no-vector _ _ (omega (arith, c.args.self.now.some, c.requires)) (rw (← c.requires) at c.args.self.now.whole) _ i.1 (rw (← i.2, ← i.3) s.1.0)) i.0
