use Rattle.std.proofs.Common.{T, sym, ap, ◌∙◌, subst}
use lib.Ieee.{Float}
use Rattle.logarithm.specs.Error.{LnError}
use Rattle.logarithm.proofs.Lent.{by-tables}
use Rattle.logarithm.proofs.Theorem.{ln-error}
use Rattle.logarithm.proofs.LnTables.ln.Goals as goal

pub returns-clause-steps : goal.returns-clause-steps
returns-clause-steps c = λ t. c.ln_by.ensures ∙ ap (λ (f : Float → Float). f c.args.x) (by-tables _ _ t)

pub returns-clause-error : goal.returns-clause-error
returns-clause-error c = λ t. subst (λ (y : Float). LnError c.args.x y) (sym (c.ln_by.ensures ∙ ap (λ (f : Float → Float). f c.args.x) (by-tables _ _ t))) (ln-error c.args.x (subst T (sym c.well_formed.1.0.1) tt))
