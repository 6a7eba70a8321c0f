-- The buyer's statement: what every sheet of a fit says, in words of models alone. A model is its numbers. Two equal numbers have the same bits: a NaN, which
-- has several patterns, is in no model.
use Rattle.std.specs.Prelude.{Err, None, Ok, Some, ℕ, zero, suc, ◌+◌, ◌*◌, ◌≤◌, ◌<◌, ◌≡◌, Bool, true, false, not, ◌&&◌, ◌||◌, cond, List, [], ◌∷◌, eqb, length, get_or, Float}
use Rattle.std.specs.Float.{nan}
use Rattle.std.specs.Float.Ieee.{lt}
use Rattle.numbers.specs.Slice.{at, all_finite}
use Rattle.refusal.specs.declared.Refusal.TheVariants.{NonFinite}
use Rattle.descent.specs.Fit.{Evaluated, Job, Fitted, Slopes, slopes, unusable, size, iterations, backtracks, Outcome, fitted, unfitted, coordinates_of, model_of, scored, gradient, norm, flat, small, trial}
use Rattle.descent.specs.declared.GstTermination.{GstTermination}
use Rattle.descent.specs.declared.GstTermination.TheVariants.{GradientTolerance, ObjectiveTolerance, MaximumIterations, LineSearchStalled}

-- p is among the places ps
abbrev pub listed : ℕ → List ℕ → Bool
listed p [] = false
listed p (q ∷ ps) = eqb p q || listed p ps

-- the places name different entries
abbrev pub distinct : List ℕ → Bool
distinct [] = true
distinct (p ∷ ps) = not (listed p ps) && distinct ps

-- What is asked of a job: that its coordinates name different entries. The rest holds of every job whose card is refused neither by 14 nor by 3: the entries
-- exist, and hold finite numbers.
pub record Sound (J : Job) : Type 0 where
  pub different : distinct J.places ≡ true
  pub inside : (i : ℕ) → i < size J → get_or J.places i 0 < length J.model
  pub finite : all_finite (coordinates_of J J.model) ≡ true

abbrev pub objective_in : Evaluated → Float
objective_in (Ok (Some o)) = o
objective_in (Ok None) = nan
objective_in (Err r) = nan

abbrev pub slopes_in : Slopes → List Float
slopes_in (slopes g) = g
slopes_in (unusable r) = []

-- passed over, or not strictly below o
abbrev pub refused_at : Float → Evaluated → Bool
refused_at o (Ok (Some v)) = not (lt v o)
refused_at o (Ok None) = true
refused_at o (Err r) = false

module _ (J : Job) where
  -- a model's evaluation, worked out afresh from its own numbers
  unfoldable pub evaluation : List Float → Evaluated
  evaluation m = cond (all_finite (coordinates_of J m)) (scored J (J.likelihood m) (coordinates_of J m)) (Err NonFinite)

  abbrev pub objective_at : List Float → Float
  objective_at m = objective_in (evaluation m)

  abbrev pub gradient_at : List Float → Slopes
  gradient_at m = gradient J (coordinates_of J m) (objective_at m)

  abbrev pub flat_by : Slopes → Bool
  flat_by (slopes g) = flat J g
  flat_by (unusable r) = false

  abbrev pub norm_by : Slopes → Float
  norm_by (slopes g) = norm J g
  norm_by (unusable r) = nan

  -- trial k of the model m, and whether it is refused
  abbrev pub trial_at : List Float → ℕ → List Float
  trial_at m k = model_of J (trial J (coordinates_of J m) (slopes_in (gradient_at m)) k)

  abbrev pub refused_trial : List Float → ℕ → Bool
  refused_trial m k = refused_at (objective_at m) (evaluation (trial_at m k))

  -- an accepted step goes from m to n, the first trial that is not refused
  pub record Accepts (m n : List Float) : Type 0 where
    pub trial_number : ℕ
    pub allowed : trial_number < backtracks J
    pub leads : n ≡ trial_at m trial_number
    pub stands : refused_trial m trial_number ≡ false
    pub first : (j : ℕ) → j < trial_number → refused_trial m j ≡ true
    pub lower : lt (objective_at n) (objective_at m) ≡ true

  -- the drop on the step to point k passes its test: never at point 0
  abbrev pub DropTo : (ℕ → List Float) → ℕ → Type 0
  DropTo point zero = ⊥
  DropTo point (suc k) = small J (objective_at (point k)) (objective_at (point (suc k))) ≡ true

  -- the reason r is true at point k
  abbrev pub BornOut : (ℕ → List Float) → ℕ → GstTermination → Type 0
  BornOut point k GradientTolerance = flat_by (gradient_at (point k)) ≡ true
  BornOut point k ObjectiveTolerance = DropTo point k
  BornOut point k MaximumIterations = k ≡ iterations J
  BornOut point k LineSearchStalled = (j : ℕ) → j < backtracks J → refused_trial (point k) j ≡ true

-- the Rust's order of reasons at one point
abbrev pub rank : GstTermination → ℕ
rank ObjectiveTolerance = 0
rank GradientTolerance = 1
rank MaximumIterations = 2
rank LineSearchStalled = 3

-- s is the sheet of these points: point k is the list's number k
pub record Claim (J : Job) (s : Fitted) (points : List (List Float)) : Type 0 where
  -- points 0 to S: the first is the card's model, the last the sheet's, and each next one is the first trial not refused
  pub number_of : length points ≡ suc s.steps
  pub starts : get_or points 0 [] ≡ J.model
  pub ends : get_or points s.steps [] ≡ s.model
  pub each : (k : ℕ) → k < s.steps → Accepts J (get_or points k []) (get_or points (suc k) [])
  pub allowed : s.steps ≤ iterations J
  -- numbers that no coordinate names
  pub keeps : (p : ℕ) → listed p J.places ≡ false → at s.model p ≡ at J.model p
  pub as_long : length s.model ≡ length J.model
  -- the sheet's numbers, worked out afresh
  pub initially : J.likelihood J.model ≡ Ok s.initial
  pub finally : J.likelihood s.model ≡ Ok s.final
  pub afresh : evaluation J s.model ≡ Ok (Some s.objective)
  pub steepness : norm_by J (gradient_at J s.model) ≡ s.norm
  -- the stopping reason is true at point S, none that the Rust prefers is true there, and none at all before
  pub borne_out : BornOut J (λ k. get_or points k []) s.steps s.stop
  pub in_order : (r : GstTermination) → rank r < rank s.stop → BornOut J (λ k. get_or points k []) s.steps r → ⊥
  pub not_before : (k : ℕ) (r : GstTermination) → k < s.steps → BornOut J (λ k. get_or points k []) k r → ⊥

-- an outcome that is a sheet is that of some points
abbrev pub Claimed : Job → Outcome → Type 0
Claimed J (fitted s) = (points : List (List Float)) × Claim J s points
Claimed J (unfitted r) = Unit {0}

-- and its evaluations are at most 1 + 2P(I + 1) + I·B
abbrev pub Counted : Job → Outcome → Type 0
Counted J (fitted s) = s.evaluations ≤ 1 + 2 * size J * (iterations J + 1) + iterations J * backtracks J
Counted J (unfitted r) = Unit {0}
