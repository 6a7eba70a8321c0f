-- A model as the Rust's `GateSetModel::try_new` tests it, in its order (document 01: kinds 5 to 7).
use Rattle.refusal.specs.Verdicts.{good, Verdict}
use Rattle.std.specs.Prelude.{Err, ℕ, Bool, false, cond, not, ◌||◌, List, eqb, Float}
use Rattle.lists.specs.Fold.{fold}
use Rattle.numbers.specs.Slice.{all_finite}
use Rattle.refusal.specs.declared.Reason.TheVariants.{Name}
use Rattle.refusal.specs.declared.Refusal.TheVariants.{Shape, NonFinite, InvalidGstOptimization}
use Rattle.card_layout.specs.declared.Header.{Header}
use Rattle.card_parts.specs.Model.{state_of, effect_of, gate_of, name_of}

-- b, or p of some index below n
unfoldable pub any_of : Bool → ℕ → (ℕ → Bool) → Bool
any_of b n p = fold n (λ i c. c || p i) b

-- a model's parts, wherever they lie
pub record Parts : Type 0 where
  pub dimension : ℕ
  pub effects : ℕ
  pub gates : ℕ
  pub state : List Float
  pub effect : ℕ → List Float
  pub gate : ℕ → List Float
  pub name : ℕ → ℕ

-- gate g's name is zero, or that of an earlier gate
abbrev pub bad_name : (ℕ → ℕ) → ℕ → Bool
bad_name name g = any_of (eqb (name g) 0) g (λ j. eqb (name j) (name g))

-- a number of an effect, or then of a gate, is not finite
abbrev pub bad_effect : Parts → Bool
bad_effect m = any_of false m.effects (λ k. not (all_finite (m.effect k)))

abbrev pub bad_gate : Parts → Bool
bad_gate m = any_of (bad_effect m) m.gates (λ g. not (all_finite (m.gate g)))

-- no state or one that is not finite; no effects; other numbers that are not finite; names
abbrev pub tested_of : Parts → Verdict
tested_of m =
    cond (eqb m.dimension 0) (Err NonFinite)
    (cond (not (all_finite m.state)) (Err NonFinite)
    (cond (eqb m.effects 0) (Err (Shape m.dimension 0))
    (cond (bad_gate m) (Err NonFinite)
    (cond (any_of false m.gates (bad_name m.name)) (Err (InvalidGstOptimization Name))
    good))))

-- the model of a card
abbrev pub on_card : List ℕ → Header → Parts
on_card s h = record { dimension = h.dimension; effects = h.effects; gates = h.gates; state = state_of s h; effect = effect_of s h; gate = gate_of s h; name = name_of s h }

unfoldable pub checked_of : List ℕ → Header → Verdict
checked_of s h = tested_of (on_card s h)
