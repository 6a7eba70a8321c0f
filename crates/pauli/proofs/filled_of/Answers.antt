use mathlib.Core.Path.{◌≡◌}
use Prim.Native.Nat.{◌-◌}
use native.Mathlib.Numerals.{unary_clauses}
use native.Mathlib.Omega.{arith}
use Rattle.pauli.proofs.Digits.{going-none, going_more, going-column, going-power, going-below}
use Rattle.pauli.proofs.filled_of.Goals as goal

pub loop-init : goal.loop-init
loop-init c = simp unary_clauses (going-none _ _ _)

pub loop-preserved : goal.loop-preserved
loop-preserved c =
    let l = c.loop in
    going_more _ _ _ l.column l.power l.place l.c l.x l.counter _ _ _ c.loop-test.true c.last.ensures c.filled-f.ensures.0 c.filled-f.ensures.2 c.filled-f.ensures.1 l.invariant

pub returns : goal.returns
returns c =
    let l = c.loop in
    let z : c.args.n - l.counter ≡ 0 = omega arith in
    (going-column _ _ _ _ _ _ _ _ _ z l.invariant, going-power _ _ _ _ _ _ _ _ _ z l.invariant, going-below _ _ _ _ _ _ _ _ _ z l.invariant, l.invariant.small)
