use mathlib.Core.Path.{sym}
use Rattle.refusal.proofs.Verdicts.{second-decides}
use Rattle.choi.proofs.Values.{checked}
use Rattle.positivity.proofs.check.Goals as goal

pub returns : goal.returns
returns c =
    second-decides _ _ _ (sym (checked _ _ _ _ _ c.four_to.ensures.0 c.square.ensures.0 c.in_ok-check_numbers.ensures)) c.check_tolerance.ensures
