use Rattle.refusal.proofs.Verdicts.{passed_on}
use Rattle.density.proofs.Outcome.{not-admitted, admitted}
use Rattle.density.proofs.project_density.Goals as goal

pub returns-in_err-admit : goal.returns-in_err-admit
returns-in_err-admit g c =
    let a = not-admitted _ _ _ _ c.admit.ensures _ _ c.in_err-admit.was in
    (passed_on c.from_residual.ensures.1 a.0, a.1)

pub returns : goal.returns
returns g c =
    let project = c.project.ensures in
    admitted _ _ _ _ c.admit.ensures _ _ _ c.in_ok-admit.was project.0 project.1
