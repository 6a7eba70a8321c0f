-- The Rust's `GateSetModel::probabilities` over a model that is given in slices (document 01's library entry): what is tested before it, in order. The model has a
-- word for the name of each gate, and its numbers in the card's order; a sequence is gate indices.
use Rattle.refusal.specs.Verdicts.{good, Verdict, first_of, counted_of}
use Rattle.std.specs.Prelude.{Err, ℕ, ◌+◌, ◌*◌, ◌≤◌, cond, ◌||◌, List, ltb, length, get_or, Float}
use Rattle.refusal.specs.declared.Refusal.TheVariants.{InvalidCard}
use Rattle.card_layout.specs.Limits.{limits_of, longest}
use Rattle.model.specs.Checked.{Parts, tested_of}
use Rattle.gate_set.specs.GateSet.{state_in, effect_in, gate_in, present_of}

-- 15 at place 0 beyond the card's limits, those of kind 7: of the dimension, the effects, the gates and the sequence's length
unfoldable pub limits_verdict : ℕ → ℕ → ℕ → ℕ → Verdict
limits_verdict d effects gates n =
    let most = limits_of 7 in
    cond (ltb most.dimension d || (ltb most.effects effects || (ltb most.gates gates || ltb longest n))) (Err (InvalidCard 0)) good

-- a model within them
pub record Sized (d e g : ℕ) : Type 0 where
  pub dimension : d ≤ 16
  pub effects : e ≤ 16
  pub gates : g ≤ 8

-- how many numbers a model has: the state, the effects, and the gates' matrices
abbrev pub model_size : ℕ → ℕ → ℕ → ℕ
model_size d effects gates = d + effects * d + gates * (d * d)

-- gate g's name
abbrev pub name_in : List ℕ → ℕ → ℕ
name_in names g = get_or names g 0

-- the model of so many effects, a gate for each name
abbrev pub given : ℕ → ℕ → List ℕ → List Float → Parts
given d effects names m = record { dimension = d; effects = effects; gates = length names; state = state_in d m; effect = effect_in d m; gate = gate_in d effects m; name = name_in names }

-- within the limits: how many numbers there are, then the model's tests, then whether the gates are there
unfoldable pub given_verdict : ℕ → ℕ → List ℕ → List Float → List ℕ → Verdict
given_verdict d effects names m sequence =
    first_of (counted_of (model_size d effects (length names)) m)
    (first_of (tested_of (given d effects names m)) (present_of (length names) sequence))

unfoldable pub sequence_verdict : ℕ → ℕ → List ℕ → List Float → List ℕ → Verdict
sequence_verdict d effects names m sequence = first_of (limits_verdict d effects (length names) (length sequence)) (given_verdict d effects names m sequence)
