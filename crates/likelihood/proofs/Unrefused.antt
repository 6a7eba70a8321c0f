-- Counts that can be added up are never refused, and a fit says that they can. Assumes nothing.
use Rattle.likelihood.specs.declared.Unfit.TheVariants.{Probabilities, Refused}
use Rattle.std.proofs.Common.{Err, None, Ok, Some, ◌≡◌, ℕ, zero, suc, ◌<◌, Bool, true, false, cond, eqb, List, length, get_or, refl, ⊎_elim, not-suc-le-zero, eq-or-lt_of_le, arith}
use lib.Ieee.{Float, lt, eq}
use Rattle.lists.specs.Fold.{fold}
use Rattle.numbers.specs.Number.{zero_f}
use Rattle.numbers.specs.Slice.{at}
use Rattle.rounding.specs.Units.{whole}
use Rattle.refusal.specs.declared.Refusal.TheVariants.{CountOverflow}
use Rattle.likelihood.specs.declared.Diagnostics.{Diagnostics}
use Rattle.likelihood.specs.Multinomial.{Likelihood, Total, Unrefused, clamped, failing, total_of, counted_of, plus_term, with_term, onward, with_terms, with_total, with_record}

onward-unrefused : (f : Diagnostics → Likelihood) → ((d : Diagnostics) → Unrefused (f d)) → (l : Likelihood) → Unrefused l → Unrefused (onward f l)
onward-unrefused f h (Ok d) u = h d
onward-unrefused f h (Err e) u = u

-- a loop whose turns never refuse
pub fold-unrefused : (f : ℕ → Diagnostics → Likelihood) (n : ℕ) → ((k : ℕ) (d : Diagnostics) → k < n → Unrefused (f k d)) → (l : Likelihood) → Unrefused l → Unrefused (fold n (λ k. onward (f k)) l)
unfolding fold
fold-unrefused f zero h l u = u
fold-unrefused f (suc n) h l u =
    onward-unrefused (f n) (λ d. h n d (omega arith)) (fold n (λ k. onward (f k)) l) (fold-unrefused f n (λ k d g. h k d (omega arith)) l u)

module _ (log : Float → Float) (b : Bool) where
  term-unrefused : (t c p : Float) (d : Diagnostics) → Unrefused (with_term log b t c p d)
  unfolding with_term
  term-unrefused t c p d = go (lt zero_f c) (eq p zero_f)
    where
      go : (seen none : Bool) → Unrefused (cond seen (cond none (Err Probabilities) (Ok (plus_term log b t c p d))) (Ok d))
      go true true = tt
      go true false = tt
      go false none = tt

  terms-unrefused : (t : Float) (counts : List ℕ) (ps : List Float) (d : Diagnostics) → Unrefused (with_terms log b t counts ps d)
  unfolding with_terms
  terms-unrefused t counts ps d =
      fold-unrefused (λ k. with_term log b t (whole (get_or counts k 0)) (clamped (at ps k))) (length counts)
      (λ k d _. term-unrefused t (whole (get_or counts k 0)) (clamped (at ps k)) d) (Ok d) tt

  -- a record whose counts can be added up is not refused, whatever its probabilities
  pub record-unrefused : (tolerance : Float) (counts : List ℕ) (ps : List Float) (d : Diagnostics) (t : ℕ) → counted_of (total_of counts) ≡ Some t → Unrefused (with_record log b tolerance counts ps d)
  unfolding with_record
  record-unrefused tolerance counts ps d t e = rw e (go (failing tolerance ps))
    where
      some : (t : Float) (z : Bool) → Unrefused (cond z (Err Probabilities) (with_terms log b t counts ps d))
      some t true = tt
      some t false = terms-unrefused t counts ps d

      go : (f : Bool) → Unrefused (cond f (Err Probabilities) (with_total log b (Some t) counts ps d))
      go true = tt
      go false = some _ (eqb t 0)

-- ---- what a fit says

abbrev pub Fits : Likelihood → Type 0
Fits (Ok d) = Unit {0}
Fits (Err u) = ⊥

pub fits : (l : Likelihood) (d : Diagnostics) → l ≡ Ok d → Fits l
fits l d e = rw e tt

-- a loop that fits: each turn was reached and fits
pub fold-fits : (f : ℕ → Diagnostics → Likelihood) (n : ℕ) (l : Likelihood) (e : Diagnostics) → fold n (λ k. onward (f k)) l ≡ Ok e → (k : ℕ) → k < n → (d e : Diagnostics) × (f k d ≡ Ok e)
unfolding fold
fold-fits f zero l e h k g = absurd (not-suc-le-zero g)
fold-fits f (suc n) l e h k g = go (λ d q z. fold-fits f n l d q k z) (fold n (λ k. onward (f k)) l) refl h
  where
    go : ((d : Diagnostics) → fold n (λ k. onward (f k)) l ≡ Ok d → k < n → (d e : Diagnostics) × (f k d ≡ Ok e)) → (m : Likelihood) → fold n (λ k. onward (f k)) l ≡ m → onward (f n) m ≡ Ok e → (d e : Diagnostics) × (f k d ≡ Ok e)
    go before (Ok d) q h =
        ⊎_elim (λ (z : k ≡ n). (d, e, rw z h)) (λ (z : k < n). before d q z) (eq-or-lt_of_le (omega arith))
    go before (Err u) q h = absurd (fits (Err u) e h)

-- a record that fits has counts that can be added up, and not to 0
pub fit-counted : (log : Float → Float) (b : Bool) (tolerance : Float) (counts : List ℕ) (ps : List Float) (d e : Diagnostics) → with_record log b tolerance counts ps d ≡ Ok e
    → (t : ℕ) × (counted_of (total_of counts) ≡ Some t) × (t ≡ 0 → ⊥)
unfolding with_record
fit-counted log b tolerance counts ps d e h = go (failing tolerance ps) (counted_of (total_of counts)) refl h
  where
    go : (f : Bool) (t : Total) → counted_of (total_of counts) ≡ t → cond f (Err Probabilities) (with_total log b t counts ps d) ≡ Ok e → (t : ℕ) × (counted_of (total_of counts) ≡ Some t) × (t ≡ 0 → ⊥)
    go true t q h = absurd (fits (Err Probabilities) e h)
    go false None q h = absurd (fits (Err (Refused CountOverflow)) e h)
    go false (Some t) q h = (t, q, λ z. fits (Err Probabilities) e (rw z at h))
