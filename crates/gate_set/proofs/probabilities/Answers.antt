use Rattle.std.proofs.Common.{◌++◌, List, take, drop, ap, ◌∙◌, arith, Float}
use lib.Seq.{take_at}
use Rattle.gate_set.proofs.Columns.{length-probabilities-by}
use Rattle.gate_set.proofs.probabilities.Goals as goal

pub returns : goal.returns
returns c =
    let a = c.args in
    ap (λ (l : List Float). l ++ drop a.e a.out.now)
    (c.copy_from_slice.ensures.after ∙ (ap (take a.e) (c.probabilities_under.ensures 0 (omega arith)) ∙ take_at _ _ a.e (length-probabilities-by a.d a.e a.model.now a.columns.now a.sequence.now)))
