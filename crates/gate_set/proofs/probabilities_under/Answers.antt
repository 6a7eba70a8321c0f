use Rattle.std.proofs.Common.{take, arith}
use Rattle.gate_set.specs.Models.{model_at, row_at}
use Rattle.gate_set.proofs.Columns.{run-measured}
use Rattle.gate_set.proofs.probabilities_under.Goals as goal

pub returns : goal.returns
returns g c = λ k h.
    let a = c.args in
    let m = model_at a.models.now k in
    run-measured a.d a.e m.numbers.now m.columns.now a.sequence.now (row_at a.out.now k) (take a.d (row_at c.loop-k.x-items k)) _ _ (c.loop-k.invariant.done k (omega arith)) (c.run.ensures k h) (c.loop-k-2.invariant.done k (omega arith))
