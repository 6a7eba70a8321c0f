-- The multinomial log-likelihood of counts, and the deviance from the saturated model (Nielsen et al. 2021, "Gate set tomography", section 5; the Rust's
-- `fit_diagnostics_with_tolerance`): of one record, whose outcomes have these counts and probabilities.
use Rattle.std.specs.Prelude.{Option, Some, None, Result, Ok, Err, ◌≡◌, ℕ, ◌+◌, ◌^◌, Bool, false, cond, not, ◌||◌, List, length, ◌==◌, nat_le, slice_index, Float}
use Rattle.std.specs.Float.Ieee.{lt, eq, neg}
use Rattle.lists.specs.Fold.{fold}
use Rattle.numbers.specs.Number.{zero_f, one_f, finite, abs, ◌+ᶠ◌, ◌-ᶠ◌, ◌*ᶠ◌, ◌/ᶠ◌}
use Rattle.numbers.specs.Slice.{at}
use Rattle.rounding.specs.Units.{whole}
use Rattle.matrix.specs.Product.{sum_of}
use Rattle.refusal.specs.declared.Refusal.{Refusal}
use Rattle.refusal.specs.declared.Refusal.TheVariants.{InvalidProbabilities, CountOverflow}
use Rattle.logarithm.specs.Steps.{ln_by}
use Rattle.logarithm.specs.declared.LnTables.{LnTables}
use Rattle.likelihood.specs.declared.Diagnostics.{Diagnostics}
use Rattle.likelihood.specs.declared.Unfit.{Unfit}
use Rattle.likelihood.specs.declared.Unfit.TheVariants.{Probabilities, Refused}

-- the diagnostics of a model; or that its probabilities fail, which a fit's trial may; or another refusal
abbrev pub Likelihood : Type 0
Likelihood = Result Diagnostics Unfit

-- what refuses a sheet of the likelihood
abbrev pub refusal_of : Unfit → Refusal
refusal_of Probabilities = InvalidProbabilities
refusal_of (Refused r) = r

-- counts added up, unless the sum is 2^64 or more
abbrev pub Total : Type 0
Total = Option ℕ

-- the logarithm by tables
abbrev pub log_in : LnTables → Float → Float
log_in t x = ln_by (at t.quotients) (at t.remainders) x

-- ---- probabilities

-- into 0 to 1; a zero keeps its sign
unfoldable pub clamped : Float → Float
clamped p = cond (lt p zero_f) zero_f (cond (lt one_f p) one_f p)

-- not finite, or farther than the tolerance from what a probability can be
unfoldable pub bad_probability : Float → Float → Bool
bad_probability tolerance p = not (finite p) || (lt p (neg tolerance) || lt (one_f +ᶠ tolerance) p)

unfoldable pub any_bad : Float → List Float → Bool
any_bad tolerance ps = fold (length ps) (λ k b. b || bad_probability tolerance (at ps k)) false

-- one is bad, or their sum is farther than the tolerance from 1: before any is clamped
unfoldable pub failing : Float → List Float → Bool
failing tolerance ps = any_bad tolerance ps || lt tolerance (abs (sum_of (length ps) (at ps) -ᶠ one_f))

-- ---- counts

-- added up as whole numbers, before any is made a float
unfoldable pub total_of : List ℕ → ℕ
total_of counts = fold (length counts) (λ k t. t + slice_index counts k) 0

unfoldable pub counted_of : ℕ → Total
counted_of t = cond (nat_le (2 ^ 64) t) None (Some t)

-- ---- terms

-- The logarithm is a parameter: by definition it is `ln`, and the code's tables give the same. `deviance` says whether the deviance is summed: it is shown
-- of few models, and the log-likelihood does not depend on it.
module _ (log : Float → Float) (deviance : Bool) where
  -- an outcome seen c times out of t, of probability p
  unfoldable pub plus_term : Float → Float → Float → Diagnostics → Diagnostics
  plus_term t c p d =
      record {
        log_likelihood = d.log_likelihood +ᶠ c *ᶠ log p;
        deviance = cond deviance (d.deviance +ᶠ whole 2 *ᶠ c *ᶠ log (c /ᶠ (t *ᶠ p))) d.deviance;
      }

  -- nothing is added where it was not seen; seen at probability 0 it fails
  unfoldable pub with_term : Float → Float → Float → Diagnostics → Likelihood
  with_term t c p d = cond (lt zero_f c) (cond (eq p zero_f) (Err Probabilities) (Ok (plus_term t c p d))) (Ok d)

-- what follows a likelihood that was found so far
abbrev pub onward : (Diagnostics → Likelihood) → Likelihood → Likelihood
onward next (Ok d) = next d
onward next (Err u) = Err u

-- the same but for the deviance
abbrev pub Alike : Likelihood → Likelihood → Type 0
Alike (Ok d) (Ok e) = d.log_likelihood ≡ e.log_likelihood
Alike (Ok d) (Err u) = ⊥
Alike (Err u) (Ok e) = ⊥
Alike (Err u) (Err v) = u ≡ v

-- found, or failed
abbrev pub Unrefused : Likelihood → Type 0
Unrefused (Ok d) = Unit {0}
Unrefused (Err Probabilities) = Unit {0}
Unrefused (Err (Refused r)) = ⊥

module _ (log : Float → Float) (deviance : Bool) where
  -- outcome by outcome, t of all
  unfoldable pub with_terms : Float → List ℕ → List Float → Diagnostics → Likelihood
  with_terms t counts ps d = fold (length counts) (λ k. onward (with_term log deviance t (whole (slice_index counts k)) (clamped (at ps k)))) (Ok d)

  -- too many counts, none at all, or their terms
  abbrev pub with_total : Total → List ℕ → List Float → Diagnostics → Likelihood
  with_total None counts ps d = Err (Refused CountOverflow)
  with_total (Some t) counts ps d = cond (t == 0) (Err Probabilities) (with_terms (whole t) counts ps d)

  -- one record
  unfoldable pub with_record : Float → List ℕ → List Float → Diagnostics → Likelihood
  with_record tolerance counts ps d = cond (failing tolerance ps) (Err Probabilities) (with_total (counted_of (total_of counts)) counts ps d)
