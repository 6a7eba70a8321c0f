-- One record, whose probabilities pass, by what its counts add up to. Assumes nothing.
use Rattle.likelihood.specs.declared.Unfit.TheVariants.{Probabilities, Refused}
use Rattle.std.proofs.Common.{Err, None, Some, ◌≡◌, ℕ, Bool, false, List, ap, ◌∙◌, eq-eqb, ne_eqb}
use lib.Ieee.{Float}
use Rattle.lists.proofs.Choices.{yes, no}
use Rattle.rounding.specs.Units.{whole}
use Rattle.refusal.specs.declared.Refusal.TheVariants.{CountOverflow}
use Rattle.likelihood.specs.declared.Diagnostics.{Diagnostics}
use Rattle.likelihood.specs.Multinomial.{Likelihood, Total, failing, total_of, counted_of, with_terms, with_total, with_record}

module _ (log : Float → Float) (b : Bool) (tolerance : Float) (counts : List ℕ) (ps : List Float) (d : Diagnostics) (total : Total) (pass : failing tolerance ps ≡ false) (found : total ≡ counted_of (total_of counts)) where
  by_total : (l : Likelihood) → l ≡ with_total log b total counts ps d → l ≡ with_record log b tolerance counts ps d
  unfolding with_record
  by_total l e = no _ pass (e ∙ ap (λ (t : Total). with_total log b t counts ps d) found)

  pub overflows : total ≡ None → Err (Refused CountOverflow) ≡ with_record log b tolerance counts ps d
  overflows h = by_total _ (rw h)

  pub unseen : (t : ℕ) → total ≡ Some t → t ≡ 0 → Err Probabilities ≡ with_record log b tolerance counts ps d
  unseen t h z = by_total (Err Probabilities) (rw h (yes _ (eq-eqb t 0 z)))

  pub weighed : (t : ℕ) (x : Float) (l : Likelihood) → total ≡ Some t → (t ≡ 0 → ⊥) → x ≡ whole t → l ≡ with_terms log b x counts ps d → l ≡ with_record log b tolerance counts ps d
  weighed t x l h z w e = by_total l (rw h (no _ (ne_eqb t 0 z) (e ∙ rw w)))
