-- How many numbers the parts of a model have, on the card and in the new gauge. Assumes nothing.
use Prim.Native.Nat.{ℕ, ◌+◌, ◌*◌}
use mathlib.Core.Path.{◌≡◌, ap₂, ◌∙◌}
use mathlib.Core.List.{List, ◌++◌}
use lib.ListN.{length, length-append}
use lib.Ieee.{Float}
use Rattle.lists.specs.Build.{joined}
use Rattle.lists.proofs.Joined.{length-joined}
use Rattle.numbers.proofs.Slices.{length-numbers}
use Rattle.matrix.proofs.Sums.{length-mat-vec, length-row-mat, length-mat-mul}
use Rattle.card_layout.specs.declared.Header.{Header}
use Rattle.card_parts.specs.Model.{state_of, effect_of, transform_of}
use Rattle.model_words.specs.Words.{model_numbers}
use Rattle.gauge.specs.Gauge.{new_state, new_effect, new_gate, transformed}

module _ (s : List ℕ) (h : Header) where
  pub length-state : length (state_of s h) ≡ h.dimension
  unfolding state_of
  length-state = length-numbers s _ _

  pub length-effect : (k : ℕ) → length (effect_of s h k) ≡ h.dimension
  unfolding effect_of
  length-effect k = length-numbers s _ _

  pub length-transform : length (transform_of s h) ≡ h.dimension * h.dimension
  unfolding transform_of
  length-transform = length-numbers s _ _

  module _ (t i : List Float) where
    pub state-in-length : length (new_state t s h) ≡ h.dimension
    unfolding new_state
    state-in-length = length-mat-vec _ t _

    pub effect-in-length : (k : ℕ) → length (new_effect i s h k) ≡ h.dimension
    unfolding new_effect
    effect-in-length k = length-row-mat _ _ i

    pub gate-in-length : (g : ℕ) → length (new_gate t i s h g) ≡ h.dimension * h.dimension
    unfolding new_gate
    gate-in-length g = length-mat-mul _ _ i

    pub effects-length : (k : ℕ) → length (joined k (new_effect i s h)) ≡ k * h.dimension
    effects-length k = length-joined k h.dimension (new_effect i s h) (λ j _. effect-in-length j)

    pub gates-length : (g : ℕ) → length (joined g (new_gate t i s h)) ≡ g * (h.dimension * h.dimension)
    gates-length g = length-joined g (h.dimension * h.dimension) (new_gate t i s h) (λ j _. gate-in-length j)

    pub vectors-length : length (new_state t s h ++ joined h.effects (new_effect i s h)) ≡ h.dimension + h.effects * h.dimension
    vectors-length = length-append (new_state t s h) (joined h.effects (new_effect i s h)) ∙ ap₂ ◌+◌ state-in-length (effects-length h.effects)

    pub transformed-length : length (transformed t i s h) ≡ model_numbers h
    unfolding transformed
    transformed-length = length-append (new_state t s h ++ joined h.effects (new_effect i s h)) (joined h.gates (new_gate t i s h)) ∙ ap₂ ◌+◌ vectors-length (gates-length h.gates)
