use Prim.Native.Nat.{ℕ, ◌+◌, ◌*◌}
use mathlib.Core.List.{◌++◌}
use mathlib.Core.Path.{refl, ap, ◌∙◌}
use native.Mathlib.Omega.{arith}
use lib.ListN.{length, drop}
use Rattle.lists.proofs.Joined.{written_none, written-end, rest-lent}
use Rattle.lists.proofs.Parts.{row_fits}
use Rattle.gate_set.specs.GateSet.{columns_in}
use Rattle.gate_set.proofs.Columns.{length-columns-in, gate-written}
use Rattle.gate_set.proofs.gates_by_columns.Goals as goal

pub loop-g-init : goal.loop-g-init
loop-g-init c = written_none _ _

pub loop-g-preserved : goal.loop-g-preserved
loop-g-preserved c =
    let a = c.args in
    gate-written a.d a.e c.loop-g.g a.model.now _ (rest-lent (a.d + a.e * a.d) _ a.model.now refl) _ _ c.row.ensures a.out.now c.loop-g.out _ _ _ c.row-in-loop-g.ensures (omega (arith, row_fits c.loop-g.g a.gates (a.d * a.d) (length a.out.now) c.loop-g-test.true c.requires.4, c.row-in-loop-g.ensures)) c.loop-g.invariant c.transpose.ensures

pub returns : goal.returns
unfolding columns_in
returns c =
    let a = c.args in
    written-end _ _ _ _ _ (omega arith) c.loop-g.invariant ∙ ap (λ (k : ℕ). columns_in a.d a.e a.gates a.model.now ++ drop k a.out.now) (length-columns-in a.d a.e a.gates a.model.now)
