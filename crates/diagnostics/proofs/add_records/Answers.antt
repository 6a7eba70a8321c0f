use Rattle.std.proofs.Common.{◌<◌, refl, sym, ◌∙◌, arith}
use Rattle.std.proofs.lemmas.List.{get_or-replicate}
use lib.Ieee.{of_bits}
use lib.ListN.{length-replicate}
use Rattle.lists.proofs.Folding.{fold_end, fold_more}
use Rattle.likelihood.proofs.Loops.{weighed-none}
use Rattle.diagnostics.specs.Diagnostics.{likelihood_by}
use Rattle.diagnostics.proofs.Steps.{ended-all}
use Rattle.diagnostics.proofs.add_records.Goals as goal

pub loop-r-init : goal.loop-r-init
unfolding of_bits
loop-r-init g c = (refl, length-replicate _ _ ∙ sym c.requires.1, λ k h. let l : k < g.row.N = omega arith in get_or-replicate _ k _ _ l ∙ sym (weighed-none _ _))

pub returns-then-all_ended : goal.returns-then-all_ended
unfolding likelihood_by
returns-then-all_ended g c = λ k h. ended-all _ _ c.loop-r.r _ _ (omega arith) (c.loop-r.invariant.2 k h) (c.all_ended.ensures.0 c.if-all_ended.true k (omega (arith, c.loop-r.invariant.1)))

pub loop-r-preserved : goal.loop-r-preserved
loop-r-preserved g c =
    (c.add_record.auto.room ∙ c.loop-r.invariant.0, c.add_record.ensures.0 ∙ c.loop-r.invariant.1, λ k h. fold_more _ c.loop-r.r _ _ _ (c.loop-r.invariant.2 k h) (c.add_record.ensures.1 k h))

pub returns : goal.returns
unfolding likelihood_by
returns g c = λ k h. fold_end _ c.loop-r.r _ _ _ (omega arith) (c.loop-r.invariant.2 k h)
