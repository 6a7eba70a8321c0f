use mathlib.Core.Path.{sym, ◌∙◌, subst}
use lib.Dec.{T}
use Rattle.root.specs.Nearest.{Nearest}
use Rattle.root.proofs.Cases.{of-infinity, of-nan, of-negative, of-zero}
use Rattle.root.proofs.Nearest.{nearest}
use Rattle.root.proofs.sqrt.Goals as goal

pub returns-clause-nearest : goal.returns-clause-nearest
returns-clause-nearest c g l = subst (Nearest c.args.x) (sym c.sqrt.ensures.value) (nearest c.args.x (subst T (sym c.well_formed.0.1) tt) g l)

pub returns-clause-of_a_zero : goal.returns-clause-of_a_zero
returns-clause-of_a_zero c h = c.sqrt.ensures.value ∙ of-zero c.args.x (subst T (sym c.well_formed.0.1) tt) h

pub returns-clause-of_infinity : goal.returns-clause-of_infinity
returns-clause-of_infinity c h = c.sqrt.ensures.value ∙ of-infinity c.args.x h

pub returns-clause-of_a_negative : goal.returns-clause-of_a_negative
returns-clause-of_a_negative c h = c.sqrt.ensures.value ∙ of-negative c.args.x h

pub returns-clause-of_a_nan : goal.returns-clause-of_a_nan
returns-clause-of_a_nan c h = c.sqrt.ensures.value ∙ of-nan c.args.x h
