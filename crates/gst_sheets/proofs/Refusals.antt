-- No sheet of a gate set is refused by 16, and a refused one writes no word. Assumes nothing.
use Rattle.std.proofs.Common.{None, Some, Err, Ok}
use Rattle.refusal.specs.Verdicts.{good, Verdict, after}
use Rattle.std.specs.Prelude.{◌==◌, slice_index}
use Prim.Native.Nat.{ℕ}
use mathlib.Core.Path.{◌≡◌, refl}
use mathlib.Core.Bool.{Bool, true, false, cond}
use mathlib.Core.List.{List}
use borrow.Author.Tests.{eqb-false}
use lib.Dec.{ltb}
use lib.ListN.{get_or}
use lib.Ieee.{Float, lt, eq}
use Rattle.lists.proofs.Folding.{fold-keeps}
use Rattle.numbers.specs.Number.{zero_f, positive}
use Rattle.numbers.specs.Slice.{number_at, at}
use Rattle.rounding.specs.Units.{whole}
use Rattle.logarithm.specs.Steps.{ln}
use Rattle.refusal.specs.declared.Refusal.TheVariants.{InvalidTolerance, UnknownGate, InvalidProbabilities}
use Rattle.refusal.specs.Values.{code_of}
use Rattle.refusal.proofs.Lower.{Lower, lower-good, lower-test, lower-each}
use Rattle.card_layout.specs.declared.Header.{Header}
use Rattle.card_parts.specs.Parts.{sequence_of}
use Rattle.model.specs.Checked.{checked_of}
use Rattle.model.proofs.Refusals.{lower-model}
use Rattle.model_words.specs.Words.{numbers_of}
use Rattle.gate_set.specs.GateSet.{present_of, probabilities_of}
use Rattle.likelihood.specs.declared.Diagnostics.{Diagnostics}
use Rattle.likelihood.specs.declared.Unfit.TheVariants.{Probabilities, Refused}
use Rattle.likelihood.specs.Multinomial.{Likelihood, Total, clamped, failing, total_of, counted_of, with_term, onward, with_terms, with_total, with_record}
use Rattle.diagnostics.specs.Diagnostics.{counts_of, no_diagnostics, record_onward, likelihood_by}
use Rattle.outcome.specs.declared.Answer.TheVariants as answer
use Rattle.outcome.specs.Outcome.{Outcome, refused}
use Rattle.outcome.proofs.Refusals.{Sound, other, either, shown-sound}
use Rattle.gst_sheets.specs.Sheets.{likelihood_sheet, tolerance_sheet, diagnostics_sheet}

-- a likelihood that is not refused by 16
abbrev pub Below : Likelihood → Type 0
Below (Ok d) = Unit {0}
Below (Err Probabilities) = Unit {0}
Below (Err (Refused r)) = code_of r ≡ 16 → ⊥

pub record Low (l : Likelihood) : Type 0 where
  pub low : Below l

fits : {d : Diagnostics} → Low (Ok d)
fits = record { low = tt }

fails : Low (Err Probabilities)
fails = record { low = tt }

low-either : (b : Bool) {x y : Likelihood} → Low x → Low y → Low (cond b x y)
low-either true p q = p
low-either false p q = q

low-onward : (f : Diagnostics → Likelihood) (l : Likelihood) → ((d : Diagnostics) → Low (f d)) → Low l → Low (onward f l)
low-onward f (Ok d) h p = h d
low-onward f (Err u) h p = p

-- what comes after a verdict that is not 16
low-after : (v : Verdict) {l : Likelihood} → Lower v → Low l → Low (after v (λ r. Err (Refused r)) l)
low-after (Ok _) p q = q
low-after (Err r) p q = record { low = p.low r refl }

lower-present : (gates : ℕ) (sequence : List ℕ) → Lower (present_of gates sequence)
unfolding present_of
lower-present gates sequence = lower-each _ _ (λ k. lower-test (ltb (get_or sequence k 0) gates) (UnknownGate (get_or sequence k 0)) (eqb-false 7 16 refl))

module _ (log : Float → Float) (deviance : Bool) where
  low-term : (t c p : Float) (d : Diagnostics) → Low (with_term log deviance t c p d)
  unfolding with_term
  low-term t c p d = low-either (lt zero_f c) (low-either (eq p zero_f) fails fits) fits

  low-terms : (t : Float) (counts : List ℕ) (ps : List Float) (d : Diagnostics) → Low (with_terms log deviance t counts ps d)
  unfolding with_terms
  low-terms t counts ps d = fold-keeps _ Low _ (Ok d) fits (λ k l _ p. low-onward _ l (low-term t (whole (slice_index counts k)) (clamped (at ps k))) p)

  low-total : (t : Total) (counts : List ℕ) (ps : List Float) (d : Diagnostics) → Low (with_total log deviance t counts ps d)
  low-total None counts ps d = record { low = eqb-false 9 16 refl }
  low-total (Some t) counts ps d = low-either (t == 0) fails (low-terms (whole t) counts ps d)

  low-record : (tolerance : Float) (counts : List ℕ) (ps : List Float) (d : Diagnostics) → Low (with_record log deviance tolerance counts ps d)
  unfolding with_record
  low-record tolerance counts ps d = low-either (failing tolerance ps) fails (low-total (counted_of (total_of counts)) counts ps d)

  pub low-likelihood : (tolerance : Float) (s : List ℕ) (h : Header) (m : List Float) → Low (likelihood_by log deviance tolerance s h m)
  unfolding likelihood_by record_onward
  low-likelihood tolerance s h m =
      fold-keeps _ Low _ (Ok no_diagnostics) fits
      (λ r l _ p. low-onward _ l (λ d. low-after (present_of h.gates (sequence_of s h r)) (lower-present h.gates (sequence_of s h r)) (low-record tolerance (counts_of s h r) (probabilities_of h.dimension h.effects m (sequence_of s h r)) d)) p)

-- ---- the sheet

sound-likelihood : (l : Likelihood) → Low l → Sound (likelihood_sheet l)
sound-likelihood (Ok d) p = shown-sound good answer.Diagnostics _ lower-good
sound-likelihood (Err Probabilities) p = other InvalidProbabilities (eqb-false 8 16 refl)
sound-likelihood (Err (Refused r)) p = other r p.low

pub sound-after : (v : Verdict) {o : Outcome} → Lower v → Sound o → Sound (after v refused o)
sound-after (Ok _) p q = q
sound-after (Err r) p q = other r (p.low r refl)

pub diagnostics-sound : (s : List ℕ) (h : Header) → Sound (diagnostics_sheet s h)
unfolding diagnostics_sheet tolerance_sheet
diagnostics-sound s h =
    let t = number_at s 1 in
    sound-after (checked_of s h) (lower-model s h)
    (either (positive t) (sound-likelihood _ (low-likelihood ln true t s h (numbers_of s h))) (other InvalidTolerance (eqb-false 5 16 refl)))
