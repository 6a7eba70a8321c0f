-- Gate sets (Greenbaum 2015, "Introduction to quantum gate set tomography", section 2; the Rust's `GateSetModel`): a state of d numbers, e effects of d numbers, and
-- gates, each a d by d matrix. A model's numbers lie in a list in the card's order, without the gates' names.
use Rattle.refusal.specs.Verdicts.{good, Verdict, first_of}
use Rattle.std.specs.Prelude.{Err, ℕ, ◌+◌, ◌*◌, ◌≤◌, ◌<◌, List, cond, ltb, length, get_or, take, Float}
use Rattle.lists.specs.Build.{build, joined}
use Rattle.lists.specs.Fold.{fold}
use Rattle.lists.specs.Part.{part}
use Rattle.matrix.specs.Product.{dot_of, mat_vec_of, row_mat_of, transposed_of}
use Rattle.refusal.specs.declared.Refusal.TheVariants.{UnknownGate}

-- the state, effect k, and gate g by rows
abbrev pub state_in : ℕ → List Float → List Float
state_in d m = take d m

abbrev pub effect_in : ℕ → List Float → ℕ → List Float
effect_in d m k = part (d + k * d) d m

abbrev pub gate_in : ℕ → ℕ → List Float → ℕ → List Float
gate_in d e m g = part (d + e * d + g * (d * d)) (d * d) m

-- x put through the gates of a sequence, the first one first
unfoldable pub through : (ℕ → List Float → List Float) → List ℕ → List Float → List Float
through act sequence x = fold (length sequence) (λ k y. act (get_or sequence k 0) y) x

-- what effects give of the state x
unfoldable pub measured : ℕ → ℕ → List Float → List Float → List Float
measured d e m x = build e (λ k. dot_of d (effect_in d m k) x)

-- p_k = E_k · G_l .. G_1 ρ
unfoldable pub probabilities_of : ℕ → ℕ → List Float → List ℕ → List Float
probabilities_of d e m sequence = measured d e m (through (λ g. mat_vec_of d (gate_in d e m g)) sequence (state_in d m))

-- every gate of the sequence is there, or the first that is not
abbrev pub present_gate : ℕ → ℕ → Verdict
present_gate gates g = cond (ltb g gates) good (Err (UnknownGate g))

unfoldable pub present_of : ℕ → List ℕ → Verdict
present_of gates sequence = fold (length sequence) (λ k v. first_of v (present_gate gates (get_or sequence k 0))) good

-- ---- gates by columns, as the code keeps them

-- all gates of a model
unfoldable pub columns_in : ℕ → ℕ → ℕ → List Float → List Float
columns_in d e gates m = joined gates (λ g. transposed_of d (gate_in d e m g))

-- the gates of a sequence lie among these columns
abbrev pub Lying : ℕ → List Float → List ℕ → Type 0
Lying d columns sequence = (k : ℕ) → k < length sequence → get_or sequence k 0 * (d * d) + d * d ≤ length columns

-- x put through a sequence of them
abbrev pub through_by : ℕ → List Float → List ℕ → List Float → List Float
through_by d columns = through (λ g x. row_mat_of d x (part (g * (d * d)) (d * d) columns))

-- the same probabilities (proofs/Columns.antt), by gates that lie so
unfoldable pub probabilities_by : ℕ → ℕ → List Float → List Float → List ℕ → List Float
probabilities_by d e m columns sequence = measured d e m (through_by d columns sequence (state_in d m))
