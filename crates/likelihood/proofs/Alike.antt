-- The log-likelihood does not depend on whether the deviance is summed. Assumes nothing.
use Rattle.likelihood.specs.declared.Unfit.TheVariants.{Probabilities}
use Rattle.std.proofs.Common.{Err, None, Ok, Some, ◌≡◌, ℕ, zero, suc, Bool, true, false, cond, eqb, List, length, get_or, refl, ap}
use lib.Ieee.{Float, lt, eq}
use Rattle.lists.specs.Fold.{fold}
use Rattle.numbers.specs.Number.{zero_f, ◌+ᶠ◌, ◌*ᶠ◌}
use Rattle.numbers.specs.Slice.{at}
use Rattle.rounding.specs.Units.{whole}
use Rattle.likelihood.specs.declared.Diagnostics.{Diagnostics}
use Rattle.likelihood.specs.Multinomial.{Likelihood, Total, Alike, clamped, failing, total_of, counted_of, plus_term, with_term, onward, with_terms, with_total, with_record}

abbrev pub Same : (Diagnostics → Likelihood) → (Diagnostics → Likelihood) → Type 0
Same f g = (d e : Diagnostics) → d.log_likelihood ≡ e.log_likelihood → Alike (f d) (g e)

onward-alike : (f g : Diagnostics → Likelihood) → Same f g → (l m : Likelihood) → Alike l m → Alike (onward f l) (onward g m)
onward-alike f g h (Ok d) (Ok e) a = h d e a
onward-alike f g h (Ok d) (Err u) a = absurd a
onward-alike f g h (Err u) (Ok e) a = absurd a
onward-alike f g h (Err u) (Err v) a = a

-- two loops whose turns do alike
pub fold-alike : (f g : ℕ → Diagnostics → Likelihood) → ((k : ℕ) → Same (f k) (g k)) → (n : ℕ) (l m : Likelihood) → Alike l m → Alike (fold n (λ k. onward (f k)) l) (fold n (λ k. onward (g k)) m)
unfolding fold
fold-alike f g h zero l m a = a
fold-alike f g h (suc n) l m a = onward-alike (f n) (g n) (h n) (fold n (λ k. onward (f k)) l) (fold n (λ k. onward (g k)) m) (fold-alike f g h n l m a)

-- b and b' say whether the deviance is summed
module _ (log : Float → Float) (b b' : Bool) where
  term-alike : (t c p : Float) → Same (with_term log b t c p) (with_term log b' t c p)
  unfolding with_term plus_term
  term-alike t c p d e h = go (lt zero_f c) (eq p zero_f)
    where
      go : (seen none : Bool) → Alike (cond seen (cond none (Err Probabilities) (Ok (plus_term log b t c p d))) (Ok d)) (cond seen (cond none (Err Probabilities) (Ok (plus_term log b' t c p e))) (Ok e))
      go true true = refl
      go true false = ap (λ (x : Float). x +ᶠ c *ᶠ log p) h
      go false none = h

  terms-alike : (t : Float) (counts : List ℕ) (ps : List Float) → Same (with_terms log b t counts ps) (with_terms log b' t counts ps)
  unfolding with_terms
  terms-alike t counts ps d e h =
      fold-alike (λ k. with_term log b t (whole (get_or counts k 0)) (clamped (at ps k))) (λ k. with_term log b' t (whole (get_or counts k 0)) (clamped (at ps k)))
      (λ k. term-alike t (whole (get_or counts k 0)) (clamped (at ps k))) (length counts) (Ok d) (Ok e) h

  -- a record's log-likelihood does not depend on whether the deviance is summed
  pub record-alike : (tolerance : Float) (counts : List ℕ) (ps : List Float) → Same (with_record log b tolerance counts ps) (with_record log b' tolerance counts ps)
  unfolding with_record
  record-alike tolerance counts ps d e h = go (failing tolerance ps) (counted_of (total_of counts))
    where
      some : (t : Float) (z : Bool) → Alike (cond z (Err Probabilities) (with_terms log b t counts ps d)) (cond z (Err Probabilities) (with_terms log b' t counts ps e))
      some t true = refl
      some t false = terms-alike t counts ps d e h

      go : (f : Bool) (t : Total) → Alike (cond f (Err Probabilities) (with_total log b t counts ps d)) (cond f (Err Probabilities) (with_total log b' t counts ps e))
      go true t = refl
      go false None = refl
      go false (Some t) = some _ (eqb t 0)
