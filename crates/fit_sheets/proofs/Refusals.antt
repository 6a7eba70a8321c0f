-- No sheet of a fit is refused by 16, and a refused one writes no word. Assumes nothing.
use Rattle.likelihood.specs.declared.Unfit.TheVariants.{Probabilities, Refused}
use Rattle.std.proofs.Common.{Ok, Err}
use Rattle.refusal.specs.Verdicts.{good}
use Prim.Native.Nat.{ℕ}
use mathlib.Core.Path.{◌≡◌, refl}
use mathlib.Core.Bool.{true, not}
use mathlib.Core.List.{List}
use borrow.Author.Tests.{eqb-false}
use lib.Dec.{eqb}
use Rattle.logarithm.specs.Steps.{ln}
use Rattle.refusal.specs.declared.Reason.{Reason}
use Rattle.refusal.specs.declared.Reason.TheVariants.{Controls, NoRecords, NoCoordinates, RepeatedCoordinate}
use Rattle.refusal.specs.declared.Refusal.{Refusal}
use Rattle.refusal.specs.declared.Refusal.TheVariants.{InvalidGstOptimization, InvalidGstParameter}
use Rattle.refusal.specs.Values.{code_of}
use Rattle.refusal.proofs.Lower.{Lower, lower-good, lower-refused, lower-either, lower-test, lower-each}
use Rattle.card_layout.specs.declared.Header.{Header}
use Rattle.card_parts.specs.Parts.{coordinate_in}
use Rattle.model.specs.Checked.{checked_of}
use Rattle.model.proofs.Refusals.{lower-model}
use Rattle.likelihood.specs.Multinomial.{Likelihood}
use Rattle.descent.specs.Fit.{fitted, unfitted, fit_of}
use Rattle.descent.specs.Fit as descent
use Rattle.descent.proofs.Refusals.{InLikelihood, InOutcome, refusals-in}
use Rattle.parameters.specs.Parameters.{config_of, good_config, has_entry, repeated, parameter_verdict, parameters_verdict, request_verdict}
use Rattle.fit.specs.Outcome.{job_of}
use Rattle.outcome.specs.declared.Answer.TheVariants.{Fit}
use Rattle.outcome.proofs.Refusals.{Sound, other, shown-sound}
use Rattle.gst_sheets.proofs.Refusals.{Low, low-likelihood, sound-after}
use Rattle.fit_sheets.specs.Sheets.{outcome_sheet, request_sheet, fit_sheet}

-- ---- the request

lower-optimization : (a : Reason) → Lower (Err (InvalidGstOptimization a))
lower-optimization a = lower-refused (InvalidGstOptimization a) (eqb-false 13 16 refl)

module _ (s : List ℕ) (h : Header) where
  lower-parameter : (i : ℕ) → Lower (parameter_verdict s h i)
  unfolding parameter_verdict
  lower-parameter i =
      lower-either (repeated s h i) (lower-optimization RepeatedCoordinate)
      (lower-test (has_entry h (coordinate_in s h i)) (InvalidGstParameter i) (eqb-false 14 16 refl))

  lower-request : Lower (request_verdict s h)
  unfolding request_verdict parameters_verdict
  lower-request =
      lower-either (not (good_config (config_of s))) (lower-optimization Controls)
      (lower-either (eqb h.records 0) (lower-optimization NoRecords)
      (lower-either (eqb h.coordinates 0) (lower-optimization NoCoordinates)
      (lower-each _ _ lower-parameter)))

-- ---- the fit

abbrev NotShort : Refusal → Type 0
NotShort r = code_of r ≡ 16 → ⊥

low-in : (l : Likelihood) → Low l → InLikelihood NotShort l
low-in (Ok d) p = tt
low-in (Err Probabilities) p = tt
low-in (Err (Refused r)) p = p.low

sound-outcome : (s : List ℕ) (h : Header) (o : descent.Outcome) → InOutcome NotShort o → Sound (outcome_sheet s h o)
sound-outcome s h (fitted f) p = shown-sound good (Fit _ _ _ _ _) _ lower-good
sound-outcome s h (unfitted r) p = other r p

pub fit-sheet-sound : (s : List ℕ) (h : Header) → Sound (fit_sheet s h)
unfolding fit_sheet request_sheet
fit-sheet-sound s h =
    sound-after (checked_of s h) (lower-model s h)
    (sound-after (request_verdict s h) (lower-request s h)
    (sound-outcome s h (fit_of (job_of s h))
    (refusals-in (job_of s h) NotShort (eqb-false 3 16 refl) (eqb-false 13 16 refl) (eqb-false 8 16 refl)
    (λ m. low-in _ (low-likelihood ln true (config_of s).probability_tolerance s h m)))))
