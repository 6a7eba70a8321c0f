use mathlib.Core.Path.{ap, sym, ◌∙◌}
use mathlib.Core.Bool.{false, true, not}
use lib.Ieee.{of_bits}
use Rattle.std.proofs.lemmas.Result.{err_from_is_err_and}
use Rattle.inversion.proofs.Reductions.{none_found, one_found, all-zero, not_finite, all-reduced, no-inverse}
use Rattle.inversion.proofs.invert_within.Goals as goal
use Rattle.inversion.proofs.invert_within.Goals.{then-scale-via-then-scale, then-scale-via-else-scale+then-not-is_finite}

pub returns-then-scale : goal.returns-then-scale
unfolding of_bits
returns-then-scale c =
    let a = c.args in
    let scale = c.scale_of-scale.ensures in
    no-inverse a.n a.threshold a.a.now a.out.now (elim c.then-scale.branch [
      | then-scale-via-then-scale w ↦ all-zero _ _ _ _ scale w.if-scale.true
      | then-scale-via-else-scale+then-not-is_finite w ↦ not_finite _ _ _ _ scale w.if-scale.false (ap not (sym w.is_finite.ensures ∙ w.if-not-is_finite.true))
    ])

pub returns-in_err-reduce : goal.returns-in_err-reduce
unfolding of_bits
returns-in_err-reduce c =
    let a = c.args in
    let q = err_from_is_err_and c.from_residual.result c.from_residual.ensures.1 in
    rw q.1 (none_found a.n a.threshold a.a.now _ _ a.out.now (all-reduced _ a.threshold _ _ c.scale_of-scale.ensures false _ _ c.if-scale.false (ap not (sym c.is_finite.ensures ∙ c.if-not-is_finite.false)) c.in_err-reduce.ensures.1))

pub returns : goal.returns
unfolding of_bits
returns c =
    let a = c.args in
    let s = all-reduced _ a.threshold _ _ c.scale_of-scale.ensures true _ _ c.if-scale.false (ap not (sym c.is_finite.ensures ∙ c.if-not-is_finite.false)) c.in_ok-reduce.ensures.1 in
    one_found a.n a.threshold a.a.now _ _ a.out.now _ s (rw c.in_ok-reduce.ensures.0 at c.right_half.ensures)
