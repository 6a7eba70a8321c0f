-- Models that the code is lent, and a state for each.
use Rattle.std.specs.Prelude.{ℕ, ◌++◌, ◌+◌, ◌*◌, ◌≤◌, ◌<◌, ◌≡◌, List, [], length, get_or, take, drop, Float}
use Rattle.gate_set.specs.declared.Model.{Model}
use Rattle.gate_set.specs.GateSet.{Lying, through_by, probabilities_by}

-- past the last model: one without numbers
abbrev pub no_model : Model
no_model = record { numbers = record { ref_ptr = (0, 0); now = [] }; columns = record { ref_ptr = (0, 0); now = [] } }

abbrev pub model_at : List Model → ℕ → Model
model_at ms k = get_or ms k no_model

-- row k
abbrev pub row_at : List (List Float) → ℕ → List Float
row_at xs k = get_or xs k []

-- each has its state and its effects
abbrev pub AllWhole : ℕ → ℕ → List Model → Type 0
AllWhole d e ms = (k : ℕ) → k < length ms → d + e * d ≤ length (model_at ms k).numbers.now

-- the gates of a sequence lie among the columns of each
abbrev pub AllLying : ℕ → List Model → List ℕ → Type 0
AllLying d ms sequence = (k : ℕ) → k < length ms → Lying d (model_at ms k).columns.now sequence

-- the states at the fronts of xs, put through the sequence, stand at the fronts of ys
abbrev pub AllThrough : ℕ → List Model → List ℕ → List (List Float) → List (List Float) → Type 0
AllThrough d ms sequence xs ys = (k : ℕ) → k < length ms → take d (row_at ys k) ≡ through_by d (model_at ms k).columns.now sequence (take d (row_at xs k))

-- ps, with the probabilities of the sequence under each written over the front of its row, is qs
abbrev pub AllMeasured : ℕ → ℕ → List Model → List ℕ → List (List Float) → List (List Float) → Type 0
AllMeasured d e ms sequence ps qs =
    (k : ℕ) → k < length ms → row_at qs k ≡ probabilities_by d e (model_at ms k).numbers.now (model_at ms k).columns.now sequence ++ drop e (row_at ps k)
