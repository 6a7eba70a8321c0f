-- One card and several likelihoods: the deviance changes no log-likelihood, and once a model fits, no other is refused. Assumes nothing.
use Rattle.likelihood.specs.declared.Unfit.TheVariants.{Refused}
use Rattle.std.proofs.Common.{Some, Err, Ok}
use Rattle.refusal.specs.Verdicts.{good, Verdict, after}
use Prim.Native.Nat.{ℕ, ◌<◌}
use mathlib.Core.Path.{◌≡◌, refl}
use mathlib.Core.Bool.{Bool}
use mathlib.Core.List.{List}
use lib.Ieee.{Float}
use Rattle.card_layout.specs.declared.Header.{Header}
use Rattle.card_parts.specs.Parts.{sequence_of}
use Rattle.gate_set.specs.GateSet.{present_of, probabilities_of}
use Rattle.likelihood.specs.declared.Diagnostics.{Diagnostics}
use Rattle.likelihood.specs.Multinomial.{Alike, Unrefused, total_of, counted_of, with_record}
use Rattle.likelihood.proofs.Alike.{Same, fold-alike, record-alike}
use Rattle.likelihood.proofs.Unrefused.{fold-unrefused, record-unrefused, fits, fold-fits, fit-counted}
use Rattle.diagnostics.specs.Diagnostics.{counts_of, no_diagnostics, record_onward, likelihood_by}

module _ (log : Float → Float) (b b' : Bool) (tolerance : Float) (s : List ℕ) (h : Header) (m : List Float) where
  onward-alike : (r : ℕ) → Same (record_onward log b tolerance s h m r) (record_onward log b' tolerance s h m r)
  unfolding record_onward
  onward-alike r d e q = go (present_of h.gates (sequence_of s h r))
    where
      ps : List Float
      ps = probabilities_of h.dimension h.effects m (sequence_of s h r)

      go : (v : Verdict) → Alike (after v (λ x. Err (Refused x)) (with_record log b tolerance (counts_of s h r) ps d)) (after v (λ x. Err (Refused x)) (with_record log b' tolerance (counts_of s h r) ps e))
      go (Err x) = refl
      go (Ok _) = record-alike log b b' tolerance (counts_of s h r) ps d e q

  -- with and without the deviance
  pub likelihood-alike : Alike (likelihood_by log b tolerance s h m) (likelihood_by log b' tolerance s h m)
  unfolding likelihood_by
  likelihood-alike = fold-alike (record_onward log b tolerance s h m) (record_onward log b' tolerance s h m) onward-alike h.records (Ok no_diagnostics) (Ok no_diagnostics) refl

-- record r's gates are there, and its counts can be added up, and not to 0
pub record Sound (s : List ℕ) (h : Header) (r : ℕ) : Type 0 where
  pub present : present_of h.gates (sequence_of s h r) ≡ good
  pub counted : (t : ℕ) × (counted_of (total_of (counts_of s h r)) ≡ Some t) × (t ≡ 0 → ⊥)

module _ (log : Float → Float) (b : Bool) (tolerance : Float) (s : List ℕ) (h : Header) (m : List Float) where
  sound : (r : ℕ) (d e : Diagnostics) → record_onward log b tolerance s h m r d ≡ Ok e → Sound s h r
  unfolding record_onward
  sound r d e q = go (present_of h.gates (sequence_of s h r)) refl q
    where
      ps : List Float
      ps = probabilities_of h.dimension h.effects m (sequence_of s h r)

      go : (v : Verdict) → present_of h.gates (sequence_of s h r) ≡ v → after v (λ x. Err (Refused x)) (with_record log b tolerance (counts_of s h r) ps d) ≡ Ok e → Sound s h r
      go (Err x) p q = absurd (fits (Err (Refused x)) e q)
      go (Ok _) p q = record { present = p; counted = fit-counted log b tolerance (counts_of s h r) ps d e q }

  -- a model that fits says so of every record
  pub fit-sound : (d : Diagnostics) → likelihood_by log b tolerance s h m ≡ Ok d → (r : ℕ) → r < h.records → Sound s h r
  unfolding likelihood_by
  fit-sound d q r l =
      let (x, y, f) = fold-fits (record_onward log b tolerance s h m) h.records (Ok no_diagnostics) d q r l in
      sound r x y f

  onward-unrefused : (r : ℕ) (d : Diagnostics) → Sound s h r → Unrefused (record_onward log b tolerance s h m r d)
  unfolding record_onward
  onward-unrefused r d k = rw k.present (record-unrefused log b tolerance (counts_of s h r) (probabilities_of h.dimension h.effects m (sequence_of s h r)) d k.counted.0 k.counted.1)

  -- and then no model is refused: it fits, or its probabilities fail
  pub sound-unrefused : ((r : ℕ) → r < h.records → Sound s h r) → Unrefused (likelihood_by log b tolerance s h m)
  unfolding likelihood_by
  sound-unrefused k = fold-unrefused (record_onward log b tolerance s h m) h.records (λ r d l. onward-unrefused r d (k r l)) (Ok no_diagnostics) tt
