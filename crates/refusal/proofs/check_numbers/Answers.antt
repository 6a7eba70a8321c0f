use mathlib.Core.Path.{sym, ◌∙◌}
use Rattle.refusal.proofs.Verdicts.{first-refuses, second-decides, passed_on, count-first}
use Rattle.refusal.proofs.check_numbers.Goals as goal

pub returns-in_err-check_count : goal.returns-in_err-check_count
returns-in_err-check_count c = passed_on c.from_residual.ensures.1 (first-refuses _ _ _ (sym c.in_err-check_count.ensures) ∙ count-first _ _)

pub returns : goal.returns
returns c = second-decides _ _ _ (sym c.in_ok-check_count.ensures) c.finite_or.ensures ∙ count-first _ _
