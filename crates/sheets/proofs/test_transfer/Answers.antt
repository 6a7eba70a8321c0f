use Rattle.refusal.proofs.Verdicts.{passed_on}
use Rattle.sheets.proofs.Shown.{physical_refused, physical_shown}
use Rattle.sizes.proofs.Small.{four-some, four-most}
use mathlib.Core.Path.{refl}
use native.Mathlib.Omega.{arith}
use Rattle.sheets.proofs.test_transfer.Goals as goal

pub is_trace_preserving-requires : goal.is_trace_preserving-requires
is_trace_preserving-requires c =
    let a = c.args in
    let s = c.requires in
    let k = s.2 in
    (omega (arith, four-some a.n, k), omega (arith, four-most a.n s.1, k), omega (arith, s.3))

pub is_unital-requires : goal.is_unital-requires
is_unital-requires c =
    let s = c.requires in (omega (arith, four-most c.args.n s.1, s.2), omega (arith, s.3))

pub returns-in_err-completely_positive : goal.returns-in_err-completely_positive
returns-in_err-completely_positive c = rw (passed_on c.from_residual.ensures.1 refl) (physical_refused _ _ _ _ _ c.is_completely_positive.ensures _ c.in_err-completely_positive.was)

pub returns : goal.returns
returns c = physical_shown _ _ _ _ _ c.is_completely_positive.ensures _ _ _ _ c.requires.2 c.in_ok-completely_positive.was c.is_trace_preserving.ensures c.is_unital.ensures
