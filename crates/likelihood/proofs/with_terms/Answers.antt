use Rattle.std.proofs.Common.{arith}
use Rattle.std.proofs.lemmas.Result.{err_from_is_err_and}
use Rattle.likelihood.specs.Multinomial.{with_terms, clamped}
use lib.Ieee.{of_bits}
use Rattle.likelihood.proofs.Loops.{weighed-none, weighed-more, weighed-ends, weighed-all}
use Rattle.likelihood.proofs.with_terms.Goals as goal

pub loop-k-init : goal.loop-k-init
loop-k-init c = weighed-none _ _

pub returns-in_err-sum : goal.returns-in_err-sum
unfolding with_terms clamped of_bits
returns-in_err-sum c =
    let q = err_from_is_err_and c.from_residual.result c.from_residual.ensures.1 in
    rw (q.1, q.2) (weighed-ends _ _ c.loop-k.k _ c.loop-k.invariant _ _ (omega arith) (rw (← c.nearest_u64_to_f64-seen.ensures, ← c.clamp.ensures.value) c.in_err-sum.ensures))

pub loop-k-preserved : goal.loop-k-preserved
unfolding clamped of_bits
loop-k-preserved c = weighed-more _ _ c.loop-k.k _ c.loop-k.invariant _ (rw (← c.nearest_u64_to_f64-seen.ensures, ← c.clamp.ensures.value) c.in_ok-sum.ensures)

pub returns : goal.returns
unfolding with_terms
returns c = weighed-all _ _ c.loop-k.k _ c.loop-k.invariant _ (omega arith)
