-- The fit of a gate set (the Rust's `reconstruct_gate_set`): gradient descent with finite differences and halved trial steps, on the coordinates that a card names.
use Rattle.std.specs.Prelude.{Option, Some, None, Result, Ok, Err, ℕ, ◌+◌, ◌*◌, Bool, cond, List, [], ◌∷◌, ◌++◌, map, length, set, Float}
use Rattle.std.specs.Float.Ieee.{neg, lt, le}
use Rattle.lists.specs.Build.{build}
use Rattle.lists.specs.Fold.{fold}
use Rattle.numbers.specs.Number.{zero_f, one_f, finite, abs, max, half_f, two_f, ◌+ᶠ◌, ◌-ᶠ◌, ◌*ᶠ◌, ◌/ᶠ◌}
use Rattle.numbers.specs.Slice.{at, all_finite}
use Rattle.root.specs.Root.{sqrt}
use Rattle.matrix.specs.Product.{sum_of}
use Rattle.refusal.specs.declared.Refusal.{Refusal}
use Rattle.refusal.specs.declared.Reason.TheVariants.{GradientNotFinite}
use Rattle.refusal.specs.declared.Refusal.TheVariants.{NonFinite, InvalidGstOptimization}
use Rattle.likelihood.specs.declared.Diagnostics.{Diagnostics}
use Rattle.likelihood.specs.declared.Unfit.TheVariants.{Probabilities, Refused}
use Rattle.likelihood.specs.Multinomial.{Likelihood, refusal_of}
use Rattle.descent.specs.declared.Accepted.{Accepted}
use Rattle.descent.specs.declared.GstOptimizerConfig.{GstOptimizerConfig}
use Rattle.descent.specs.declared.GstTermination.{GstTermination}
use Rattle.descent.specs.declared.GstTermination.TheVariants.{GradientTolerance, ObjectiveTolerance, MaximumIterations, LineSearchStalled}

-- coordinates evaluated: their objective, or none where the probabilities fail, so that they are passed over; or the refusal of the whole fit
abbrev pub Evaluated : Type 0
Evaluated = Result (Option Float) Refusal

-- a derivative, or why the fit is refused
abbrev pub Derivative : Type 0
Derivative = Result Float Refusal

-- a search among trials: the accepted one, if there is one so far; or the refusal of the whole fit
abbrev pub Search : Type 0
Search = Result (Option Accepted) Refusal

abbrev pub found : ℕ → Float → Search
found k v = Ok (Some (record { trial = k; objective = v }))

-- What a card gives to its fit: the numbers of its model, the place among them of each coordinate's entry, the controls, and the likelihood of any model's numbers by
-- the card's records and probability tolerance.
pub record Job : Type 0 where
  pub model : List Float
  pub places : List ℕ
  pub config : GstOptimizerConfig
  pub likelihood : List Float → Likelihood

-- the model m with the numbers xs at the places ps: of two at one place the later wins
unfoldable pub put : List ℕ → List Float → List Float → List Float
put [] xs m = m
put (p ∷ ps) [] m = m
put (p ∷ ps) (x ∷ xs) m = put ps xs (set m p x)

-- a gradient, or why there is none
pub data Slopes : Type 0 where
  slopes : List Float → Slopes
  unusable : Refusal → Slopes

-- a point that the fit has reached: its coordinates and their objective, the accepted steps and the evaluations so far
pub record Point : Type 0 where
  pub coordinates : List Float
  pub objective : Float
  pub steps : ℕ
  pub evaluations : ℕ

-- going on from a point, stopped at one, or refused
pub data State : Type 0 where
  going : Point → State
  stopped : GstTermination → Point → State
  refused : Refusal → State

-- what a sheet shows of a fit
pub record Fitted : Type 0 where
  pub stop : GstTermination
  pub steps : ℕ
  pub evaluations : ℕ
  pub initial : Diagnostics
  pub final : Diagnostics
  pub objective : Float
  pub norm : Float
  pub model : List Float

pub data Outcome : Type 0 where
  fitted : Fitted → Outcome
  unfitted : Refusal → Outcome

-- a derivative that is not finite refuses the fit
unfoldable pub usable : Float → Derivative
usable v = cond (finite v) (Ok v) (Err (InvalidGstOptimization GradientNotFinite))

-- the derivative from the probes on the right and on the left, h away, where the objective is o: by both, by the one that is admitted, or 0
abbrev pub difference_of : Float → Float → Evaluated → Evaluated → Derivative
difference_of o h (Ok (Some r)) (Ok (Some l)) = usable ((r -ᶠ l) /ᶠ (two_f *ᶠ h))
difference_of o h (Ok (Some r)) (Ok None) = usable ((r -ᶠ o) /ᶠ h)
difference_of o h (Ok (Some r)) (Err x) = Err x
difference_of o h (Ok None) (Ok (Some l)) = usable ((o -ᶠ l) /ᶠ h)
difference_of o h (Ok None) (Ok None) = usable zero_f
difference_of o h (Ok None) (Err x) = Err x
difference_of o h (Err x) left = Err x

-- one derivative more
abbrev pub with_slope : Slopes → Derivative → Slopes
with_slope (slopes g) (Ok v) = slopes (g ++ (v ∷ []))
with_slope (slopes g) (Err r) = unusable r
with_slope (unusable r) d = unusable r

-- trial k, evaluated, where the objective is o: accepted only strictly below it
abbrev pub judged : Float → ℕ → Evaluated → Search
judged o k (Ok (Some v)) = cond (lt v o) (found k v) (Ok None)
judged o k (Ok None) = Ok None
judged o k (Err r) = Err r

-- at the step limit a gradient that passes the test is the reason
abbrev pub reason_at : GstTermination → Bool → GstTermination
reason_at MaximumIterations b = cond b GradientTolerance MaximumIterations
reason_at GradientTolerance b = GradientTolerance
reason_at ObjectiveTolerance b = ObjectiveTolerance
reason_at LineSearchStalled b = LineSearchStalled

-- the diagnostics of a likelihood that has some
abbrev pub diagnostics_in : Likelihood → Diagnostics
diagnostics_in (Ok d) = d
diagnostics_in (Err u) = record { log_likelihood = zero_f; deviance = zero_f }

module _ (J : Job) where
  -- P, I and B
  abbrev pub size : ℕ
  size = length J.places

  abbrev pub iterations : ℕ
  iterations = J.config.max_iterations

  abbrev pub backtracks : ℕ
  backtracks = J.config.max_backtracks

  -- the numbers at the coordinates' entries of a model
  abbrev pub coordinates_of : List Float → List Float
  coordinates_of m = map (at m) J.places

  -- the card's model with the numbers xs at the coordinates' entries
  abbrev pub model_of : List Float → List Float
  model_of xs = put J.places xs J.model

  -- ---- an evaluation

  -- the sum of squared distances from the card's numbers
  unfoldable pub distance : List Float → Float
  distance xs = sum_of size (λ i. (at xs i -ᶠ at (coordinates_of J.model) i) *ᶠ (at xs i -ᶠ at (coordinates_of J.model) i))

  -- -(log-likelihood) + (0.5 · strength) · distance
  unfoldable pub objective_of : Float → List Float → Float
  objective_of likely xs = neg likely +ᶠ half_f *ᶠ J.config.anchor_strength *ᶠ distance xs

  abbrev pub scored : Likelihood → List Float → Evaluated
  scored (Ok d) xs = Ok (Some (objective_of d.log_likelihood xs))
  scored (Err Probabilities) xs = Ok None
  scored (Err (Refused r)) xs = Err r

  unfoldable pub evaluate : List Float → Evaluated
  evaluate xs = cond (all_finite xs) (scored (J.likelihood (model_of xs)) xs) (Err NonFinite)

  -- ---- the gradient at xs, where the objective is o

  unfoldable pub displacement : Float → Float
  displacement x = J.config.finite_difference_step *ᶠ max (abs x) one_f

  unfoldable pub derivative : List Float → Float → ℕ → Derivative
  derivative xs o i =
      let h = displacement (at xs i) in
      difference_of o h (evaluate (set xs i (at xs i +ᶠ h))) (evaluate (set xs i (at xs i -ᶠ h)))

  unfoldable pub gradient : List Float → Float → Slopes
  gradient xs o = fold size (λ i g. with_slope g (derivative xs o i)) (slopes [])

  unfoldable pub norm : List Float → Float
  norm g = sqrt (sum_of size (λ i. at g i *ᶠ at g i))

  -- the gradient test
  abbrev pub flat : List Float → Bool
  flat g = le (norm g) J.config.gradient_tolerance

  -- ---- the search

  -- the first step halved k times
  unfoldable pub step_length : ℕ → Float
  step_length k = fold k (λ i s. s *ᶠ half_f) J.config.initial_step

  unfoldable pub trial : List Float → List Float → ℕ → List Float
  trial xs g k = build size (λ i. at xs i -ᶠ step_length k *ᶠ at g i)

  abbrev pub onward : List Float → List Float → Float → ℕ → Search → Search
  onward xs g o k (Ok None) = judged o k (evaluate (trial xs g k))
  onward xs g o k (Ok (Some a)) = Ok (Some a)
  onward xs g o k (Err r) = Err r

  -- the first n trials
  unfoldable pub search_to : List Float → List Float → Float → ℕ → Search
  search_to xs g o n = fold n (onward xs g o) (Ok None)

  -- ---- a step: one gradient and its search. It does not look at the iteration limit

  -- the test on the drop
  abbrev pub small : Float → Float → Bool
  small before after = le (before -ᶠ after) J.config.objective_tolerance

  -- the point p with n evaluations more
  abbrev pub counted : ℕ → Point → Point
  counted n p = record { coordinates = p.coordinates; objective = p.objective; steps = p.steps; evaluations = p.evaluations + n }

  -- where the search from p along g ends
  abbrev pub searched : Point → List Float → Search → State
  searched p g (Ok None) = stopped LineSearchStalled (counted (2 * size + backtracks) p)
  searched p g (Ok (Some a)) =
      let q : Point = record { coordinates = trial p.coordinates g a.trial; objective = a.objective; steps = p.steps + 1; evaluations = p.evaluations + (2 * size + (a.trial + 1)) } in
      cond (small p.objective a.objective) (stopped ObjectiveTolerance q) (going q)
  searched p g (Err r) = refused r

  abbrev pub step_by : Point → Slopes → State
  step_by p (slopes g) = cond (flat g) (stopped GradientTolerance (counted (2 * size) p)) (searched p g (search_to p.coordinates g p.objective backtracks))
  step_by p (unusable r) = refused r

  unfoldable pub step : Point → State
  step p = step_by p (gradient p.coordinates p.objective)

  -- ---- the fit

  abbrev pub next : State → State
  next (going p) = step p
  next (stopped r p) = stopped r p
  next (refused r) = refused r

  -- the card's own model
  abbrev pub begin_by : Likelihood → State
  begin_by (Ok d) =
      going (record { coordinates = coordinates_of J.model; objective = objective_of d.log_likelihood (coordinates_of J.model); steps = 0; evaluations = 1 })
  begin_by (Err u) = refused (refusal_of u)

  -- after n steps
  unfoldable pub after : ℕ → State
  after n = fold n (λ i s. next s) (begin_by (J.likelihood J.model))

  -- the final gradient
  abbrev pub closed_by : Diagnostics → GstTermination → Point → Slopes → Outcome
  closed_by d r p (slopes g) =
      fitted (record {
        stop = reason_at r (flat g);
        steps = p.steps;
        evaluations = p.evaluations + 2 * size;
        initial = d;
        final = diagnostics_in (J.likelihood (model_of p.coordinates));
        objective = p.objective;
        norm = norm g;
        model = model_of p.coordinates;
      })
  closed_by d r p (unusable x) = unfitted x

  unfoldable pub closed : Diagnostics → GstTermination → Point → Outcome
  closed d r p = closed_by d r p (gradient p.coordinates p.objective)

  abbrev pub finished : Diagnostics → State → Outcome
  finished d (going p) = closed d MaximumIterations p
  finished d (stopped r p) = closed d r p
  finished d (refused x) = unfitted x

  abbrev pub fit_by : Likelihood → Outcome
  fit_by (Ok d) = finished d (after iterations)
  fit_by (Err u) = unfitted (refusal_of u)

  unfoldable pub fit_of : Outcome
  fit_of = fit_by (J.likelihood J.model)
