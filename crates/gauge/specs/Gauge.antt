-- A gauge transform S of a gate set (document 01, kind 6; the Rust's `gauge_transform`): the state r becomes S r, each effect E (a row) E S⁻¹, each gate G S G S⁻¹, so that all
-- probabilities stay what they are.
use Rattle.refusal.specs.Verdicts.{good, Verdict, first_of, after, finite_or}
use Rattle.std.specs.Prelude.{Err, ℕ, cond, not, List, [], ◌++◌, pos, Float}
use Rattle.std.specs.Float.Ieee.{of_int}
use Rattle.std.specs.Float.{binary64}
use Rattle.lists.specs.Build.{joined}
use Rattle.numbers.specs.Number.{number, ◌*ᶠ◌}
use Rattle.numbers.specs.Slice.{all_finite}
use Rattle.refusal.specs.declared.Refusal.TheVariants.{NonFinite, SingularGaugeTransform}
use Rattle.matrix.specs.Product.{mat_vec_of, row_mat_of, mat_mul_of}
use Rattle.inversion.specs.Inversion.{invertible, inverse_of}
use Rattle.card_layout.specs.declared.Header.{Header}
use Rattle.card_parts.specs.Model.{state_of, effect_of, gate_of, transform_of}

-- (64 · 2^-52) · d, relative to the largest size: a pivot at most that is none
unfoldable pub threshold_of : ℕ → Float
threshold_of d = number 0x4050000000000000 *ᶠ number 0x3cb0000000000000 *ᶠ of_int binary64 (pos d)

-- the transform is tested, and then inverted
unfoldable pub inverted_of : ℕ → List Float → Verdict
inverted_of d t =
    cond (not (all_finite t)) (Err NonFinite)
    (cond (invertible d (threshold_of d) t) good
    (Err SingularGaugeTransform))

-- its inverse; none where it is refused
unfoldable pub inverse_in : ℕ → List Float → List Float
inverse_in d t = cond (not (all_finite t)) [] (inverse_of d (threshold_of d) t)

-- the parts of the card's model under the transform t with the inverse i
unfoldable pub new_state : List Float → List ℕ → Header → List Float
new_state t s h = mat_vec_of h.dimension t (state_of s h)

unfoldable pub new_effect : List Float → List ℕ → Header → ℕ → List Float
new_effect i s h k = row_mat_of h.dimension (effect_of s h k) i

unfoldable pub new_gate : List Float → List Float → List ℕ → Header → ℕ → List Float
new_gate t i s h g = mat_mul_of h.dimension (mat_mul_of h.dimension t (gate_of s h g)) i

-- all numbers of the new model: the state's, the effects', the gates'
unfoldable pub transformed : List Float → List Float → List ℕ → Header → List Float
transformed t i s h = (new_state t s h ++ joined h.effects (new_effect i s h)) ++ joined h.gates (new_gate t i s h)

-- the new model's numbers
unfoldable pub new_model : List ℕ → Header → List Float
new_model s h = transformed (transform_of s h) (inverse_in h.dimension (transform_of s h)) s h

-- the transform has to be good, and `GateSetModel::try_new` refuses a number that is not finite
unfoldable pub gauged_of : List ℕ → Header → Verdict
gauged_of s h = first_of (inverted_of h.dimension (transform_of s h)) (finite_or NonFinite (new_model s h))

-- the numbers that are computed: none where the transform is refused
unfoldable pub gauged_numbers : List ℕ → Header → List Float
gauged_numbers s h = after (inverted_of h.dimension (transform_of s h)) (λ _. []) (new_model s h)
