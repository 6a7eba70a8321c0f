use Rattle.refusal.proofs.Verdicts.{passed_on}
use Rattle.sheets.proofs.Shown.{model_refused}
use Rattle.lists.specs.Build.{over}
use Rattle.model.specs.Checked.{checked_of}
use lib.Ieee.{Float}
use mathlib.Core.List.{List}
use mathlib.Core.Path.{ap}
use Rattle.sheets.proofs.transform.Goals as goal

pub returns-in_err-check : goal.returns-in_err-check
unfolding checked_of
returns-in_err-check c =
    let r = model_refused c.args.card.now.bytes.now c.args.card.now.header _ _ c.check.ensures c.in_err-check.was in
    (passed_on c.from_residual.ensures.1 r.0, ap (λ (x : List Float). over x c.args.work.now) r.1)
