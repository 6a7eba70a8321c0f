-- The tests of a transform, taken apart in their order, and the parts of the new model put together. Assumes nothing.
use Rattle.std.proofs.Common.{Result, Ok, Err, is_ok, IsErrAnd, MatchResult}
use Rattle.refusal.specs.Verdicts.{good, Verdict, first_of, after, finite_or}
use Prim.Native.Nat.{ℕ, ◌+◌, ◌-◌, ◌*◌}
use mathlib.Core.Path.{◌≡◌, refl, sym, ap, ap₂, ◌∙◌}
use mathlib.Core.Bool.{Bool, true, false, cond, not}
use mathlib.Core.List.{List, [], ◌++◌}
use lib.ListN.{length, take, drop}
use lib.Ieee.{Float}
use Rattle.lists.specs.Build.{over, joined}
use Rattle.lists.proofs.Choices.{yes, no}
use Rattle.lists.proofs.Joined.{over-onto}
use Rattle.lists.proofs.Parts.{over-front}
use Rattle.numbers.specs.Slice.{all_finite}
use Rattle.refusal.specs.declared.Refusal.{Refusal}
use Rattle.refusal.specs.declared.Refusal.TheVariants.{NonFinite, SingularGaugeTransform}
use Rattle.refusal.proofs.Verdicts.{never-good, both-good}
use Rattle.inversion.specs.Inversion.{invertible, inverse_of}
use Rattle.inversion.proofs.Reductions.{length-inverse}
use Rattle.card_layout.specs.declared.Header.{Header}
use Rattle.card_parts.specs.Model.{transform_of}
use Rattle.model_words.specs.Words.{model_numbers}
use Rattle.gauge.specs.Gauge.{threshold_of, inverted_of, inverse_in, new_state, new_effect, new_gate, transformed, new_model, gauged_of, gauged_numbers}
use Rattle.gauge.proofs.Lengths.{state-in-length, vectors-length, transformed-length}

module _ (d : ℕ) (t : List Float) where
  module _ (f : all_finite t ≡ false) where
    pub not_finite : Err NonFinite ≡ inverted_of d t
    unfolding inverted_of
    not_finite = yes _ (ap not f)

    pub none-computed : [] ≡ inverse_in d t
    unfolding inverse_in
    none-computed = yes _ (ap not f)

  module _ (f : all_finite t ≡ true) where
    -- whether it has an inverse, as a call answered, with a refusal in place of the error
    pub given : {E : Type 0} {P : E → Refusal → Type 0} (i : Result Unit E) (v : Verdict) → is_ok i ≡ invertible d (threshold_of d) t
        → MatchResult i (λ x. v ≡ Ok x) (λ e. IsErrAnd v (P e)) → ((e : E) (r : Refusal) → P e r → r ≡ SingularGaugeTransform) → v ≡ inverted_of d t
    unfolding inverted_of
    given (Ok x) v e m p = m ∙ no _ (ap not f) (yes _ (sym e))
    given (Err x) (Ok y) e m p = absurd m
    given (Err x) (Err r) e m p = ap Err (p x r m) ∙ no _ (ap not f) (no _ (sym e) refl)

    pub computed : inverse_of d (threshold_of d) t ≡ inverse_in d t
    unfolding inverse_in
    computed = no _ (ap not f) refl

  -- a good transform has an inverse of as many numbers
  pub inverse-length : good ≡ inverted_of d t → length (inverse_in d t) ≡ d * d
  unfolding inverted_of inverse_in
  inverse-length e = go (all_finite t) (invertible d (threshold_of d) t) refl e
    where
      go : (a b : Bool) → invertible d (threshold_of d) t ≡ b → good ≡ cond (not a) (Err NonFinite) (cond b good (Err SingularGaugeTransform)) → length (cond (not a) [] (inverse_of d (threshold_of d) t)) ≡ d * d
      go true true q e = length-inverse d (threshold_of d) t q
      go true false q e = absurd (never-good e)
      go false b q e = absurd (never-good e)

-- the state, then the effects, then the gates were written, each behind the one before
pub parts-written : (t i : List Float) (s : List ℕ) (h : Header) (d v e f : ℕ) (l a b x y : List Float) → h.dimension ≡ d → h.dimension + h.effects * h.dimension ≡ v → e ≡ length a → f ≡ length b
    → a ≡ over (new_state t s h) l
    → x ≡ over (joined h.effects (new_effect i s h)) (take (e - d) (drop d a)) → b ≡ take d a ++ (x ++ drop (e - d) (drop d a))
    → y ≡ over (joined h.gates (new_gate t i s h)) (take (f - v) (drop v b))
    → take v b ++ (y ++ drop (f - v) (drop v b)) ≡ over (transformed t i s h) l
unfolding transformed
parts-written t i s h d v e f l a b x y q p k m aw xw bw yw =
    over-onto (new_state t s h ++ joined h.effects (new_effect i s h)) (joined h.gates (new_gate t i s h)) l v f b y (vectors-length s h t i ∙ p) m
    (bw ∙ over-onto (new_state t s h) (joined h.effects (new_effect i s h)) l d e a x (state-in-length s h t i ∙ q) k aw xw)
    yw

-- ---- the whole

module _ (s : List ℕ) (h : Header) where
  -- the verdict on the transform, as a call gave it
  pub transform-refused : (w : Verdict) (r : Refusal) → w ≡ inverted_of h.dimension (transform_of s h) → w ≡ Err r → (Err r ≡ gauged_of s h) × ([] ≡ gauged_numbers s h)
  unfolding gauged_of gauged_numbers
  transform-refused w r e f = (ap (λ (x : Verdict). first_of x (finite_or NonFinite (new_model s h))) (sym f ∙ e), ap (λ (x : Verdict). after x (λ _. []) (new_model s h)) (sym f ∙ e))

  pub model-length : length (new_model s h) ≡ model_numbers h
  unfolding new_model
  model-length = transformed-length s h _ _

  -- where all is good the new model was computed
  pub good-model : good ≡ gauged_of s h → gauged_numbers s h ≡ new_model s h
  unfolding gauged_of gauged_numbers
  good-model e =
      let b = both-good (inverted_of h.dimension (transform_of s h)) (finite_or NonFinite (new_model s h)) e in
      ap (λ (x : Verdict). after x (λ _. []) (new_model s h)) (sym b.0)

  module _ (t i : List Float) (e : t ≡ transform_of s h) (f : i ≡ inverse_in h.dimension (transform_of s h)) where
    pub model_is : transformed t i s h ≡ new_model s h
    unfolding new_model
    model_is = ap₂ (λ (t i : List Float). transformed t i s h) e f

    pub transform-good : (w v : Verdict) (l m : List Float) → w ≡ inverted_of h.dimension (transform_of s h) → w ≡ good → v ≡ finite_or NonFinite (transformed t i s h) → m ≡ over (transformed t i s h) l
        → (v ≡ gauged_of s h) × (m ≡ over (gauged_numbers s h) l)
    unfolding gauged_of gauged_numbers
    transform-good w v l m a g b o = (
      b ∙ ap (finite_or NonFinite) model_is ∙ ap (λ (x : Verdict). first_of x (finite_or NonFinite (new_model s h))) (sym g ∙ a),
      o ∙ ap (λ (x : List Float). over x l) (model_is ∙ ap (λ (x : Verdict). after x (λ _. []) (new_model s h)) (sym g ∙ a)),
    )

-- A part x of the card, which was read as y, under f, whose result has n numbers, at the front of the room l, whose rest stays.
pub put_under : (f : List Float → List Float) {x y : List Float} (l : List Float) {r z : List Float} {n : ℕ} → length (f x) ≡ n → y ≡ x → r ≡ drop n l → z ≡ f y ++ r → z ≡ over (f x) l
put_under f {x} l k e t w = over-front (f x) l k (w ∙ ap₂ (λ (y r : List Float). f y ++ r) e t)
