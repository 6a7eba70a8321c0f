use Prim.Native.Nat.{ℕ}
use mathlib.Core.List.{List, ◌++◌}
use mathlib.Core.Path.{ap, ◌∙◌}
use native.Mathlib.Omega.{arith}
use lib.ListN.{length, drop}
use lib.Seq.{length-take-le}
use lib.Ieee.{Float}
use borrow.Author.Rules.{rules}
use Rattle.lists.specs.Build.{build}
use Rattle.lists.proofs.Filling.{fill_none, fill_more, fill-all}
use Rattle.matrix.specs.Product.{dot_of}
use Rattle.gate_set.specs.GateSet.{effect_in, measured}
use Rattle.gate_set.proofs.Columns.{effect-measured}
use Rattle.gate_set.proofs.measure.Goals as goal

pub loop-k-init : goal.loop-k-init
loop-k-init c = fill_none _ _

pub loop-k-preserved : goal.loop-k-preserved
loop-k-preserved c =
    let a = c.args in
    fill_more _ _ _ _ _ (omega arith) c.loop-k.invariant (c.dot.ensures ∙ effect-measured (length a.x.now) a.e c.loop-k.k a.model.now a.x.now _ _ c.row.ensures (search rules) c.requires.2)

pub returns : goal.returns
unfolding measured
returns c =
    let a = c.args in
    ap (λ (l : List Float). l ++ drop a.e a.out.now)
    (fill-all _ _ _ _ (omega arith) c.loop-k.invariant
    ∙ ap (λ (m : ℕ). build m (λ k. dot_of (length a.x.now) (effect_in (length a.x.now) a.model.now k) a.x.now)) (length-take-le _ _ (search rules)))
