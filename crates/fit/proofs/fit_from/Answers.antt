use mathlib.Core.Path.{refl, ◌∙◌}
use Rattle.refusal.proofs.Verdicts.{passed_on}
use Rattle.fit.proofs.Whole.{fit_leads}
use Rattle.fit.proofs.fit_from.Goals as goal

pub returns-in_err-r : goal.returns-in_err-r
returns-in_err-r c =
    rw (passed_on c.from_residual.ensures.1 refl) (fit_leads c.args.limited.now.task c.args.d c.requires.0 _ _ _ _ c.copy_from_slice.ensures.after c.objective.ensures c.in_err-r.ensures)

pub returns : goal.returns
returns c =
    c.finish.ensures ∙ fit_leads c.args.limited.now.task c.args.d c.requires.0 _ _ _ _ c.copy_from_slice.ensures.after c.objective.ensures c.in_ok-r.ensures.state
