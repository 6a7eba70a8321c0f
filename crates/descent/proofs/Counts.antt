-- How often a fit evaluates. Assumes nothing.
use Rattle.std.proofs.Common.{Err, None, Ok, Some}
use Rattle.likelihood.specs.declared.Unfit.TheVariants.{Probabilities, Refused}
use Prim.Native.Nat.{ℕ, zero, suc, ◌+◌, ◌*◌, ◌≤◌, ◌<◌}
use mathlib.Core.Bool.{Bool, cond}
use mathlib.Core.List.{List}
use native.Mathlib.Nat.{suc-mul, mul-add, mul_comm}
use native.Mathlib.Omega.{arith}
use lib.Ieee.{Float, lt}
use Rattle.lists.specs.Fold.{fold}
use Rattle.likelihood.specs.declared.Diagnostics.{Diagnostics}
use Rattle.likelihood.specs.Multinomial.{Likelihood}
use Rattle.descent.specs.Fit.{found, Evaluated, Search, Job, Point, State, going, stopped, refused, Slopes, slopes, unusable, size, iterations, backtracks, evaluate, gradient, flat, trial, judged, onward, search_to, small, counted, searched, step_by, step, next, begin_by, after, closed_by, closed, finished, fit_by, fit_of}
use Rattle.descent.specs.declared.GstTermination.{GstTermination}
use Rattle.descent.specs.declared.GstTermination.TheVariants.{GradientTolerance, ObjectiveTolerance, MaximumIterations}
use Rattle.descent.specs.Claim.{Counted}
use Rattle.descent.proofs.Laws.{split}

-- a trial that was found is one of the first n
abbrev Below : ℕ → Search → Type 0
Below n (Ok None) = Unit {0}
Below n (Ok (Some a)) = a.trial < n
Below n (Err r) = Unit {0}

judge-below : (o : Float) (n : ℕ) (e : Evaluated) → Below (suc n) (judged o n e)
judge-below o n (Ok (Some v)) = split (λ (b : Bool). Below (suc n) (cond b (found n v) (Ok None))) (lt v o) (λ _. omega arith) (λ _. tt)
judge-below o n (Ok None) = tt
judge-below o n (Err r) = tt

abbrev evaluations_in : State → ℕ
evaluations_in (going p) = p.evaluations
evaluations_in (stopped r p) = p.evaluations
evaluations_in (refused r) = 0

-- the first evaluation, I steps and the last gradient
in_all : (P I B n : ℕ) → n ≤ 1 + I * (2 * P + B) → n + 2 * P ≤ 1 + 2 * P * (I + 1) + I * B
in_all P I B n h = omega (arith, mul-add I (2 * P) B, mul-add (2 * P) I 1, mul_comm I (2 * P))

module _ (J : Job) where
  -- a step's evaluations at most: two for each coordinate, and B trials
  abbrev most : ℕ
  most = 2 * size J + backtracks J

  module _ (xs g : List Float) (o : Float) where
    on_below : (n : ℕ) (t : Search) → Below n t → Below (suc n) (onward J xs g o n t)
    on_below n (Ok None) h = judge-below o n (evaluate J (trial J xs g n))
    on_below n (Ok (Some a)) h = omega arith
    on_below n (Err r) h = tt

    below : (n : ℕ) → Below n (search_to J xs g o n)
    unfolding search_to fold
    below zero = tt
    below (suc n) = on_below n (search_to J xs g o n) (below n)

  by-search : (p : Point) (g : List Float) (t : Search) → Below (backtracks J) t → evaluations_in (searched J p g t) ≤ p.evaluations + most
  by-search p g (Ok None) h = omega arith
  by-search p g (Ok (Some a)) h =
      let q : Point = record { coordinates = trial J p.coordinates g a.trial; objective = a.objective; steps = p.steps + 1; evaluations = p.evaluations + (2 * size J + (a.trial + 1)) } in
      split (λ (b : Bool). evaluations_in (cond b (stopped ObjectiveTolerance q) (going q)) ≤ p.evaluations + most) (small J p.objective a.objective) (λ _. omega arith) (λ _. omega arith)
  by-search p g (Err r) h = omega arith

  by-gradient : (p : Point) (G : Slopes) → evaluations_in (step_by J p G) ≤ p.evaluations + most
  by-gradient p (slopes g) =
      let t = search_to J p.coordinates g p.objective (backtracks J) in
      split (λ (b : Bool). evaluations_in (cond b (stopped GradientTolerance (counted J (2 * size J) p)) (searched J p g t)) ≤ p.evaluations + most) (flat J g)
      (λ _. omega arith)
      (λ _. by-search p g t (below p.coordinates g p.objective (backtracks J)))
  by-gradient p (unusable r) = omega arith

  by-step : (s : State) → evaluations_in (next J s) ≤ evaluations_in s + most
  unfolding step
  by-step (going p) = by-gradient p (gradient J p.coordinates p.objective)
  by-step (stopped r p) = omega arith
  by-step (refused r) = omega arith

  by-start : (L : Likelihood) → evaluations_in (begin_by J L) ≤ 1
  by-start (Ok d) = omega arith
  by-start (Err Probabilities) = omega arith
  by-start (Err (Refused r)) = omega arith

  counts : (n : ℕ) → evaluations_in (after J n) ≤ 1 + n * most
  unfolding after fold
  counts zero = omega (arith, by-start (J.likelihood J.model))
  counts (suc n) = omega (arith, counts n, by-step (after J n), suc-mul n most)

  by-close : (d : Diagnostics) (r : GstTermination) (p : Point) → p.evaluations ≤ 1 + iterations J * most → Counted J (closed J d r p)
  unfolding closed
  by-close d r p h = go (gradient J p.coordinates p.objective)
    where
      go : (G : Slopes) → Counted J (closed_by J d r p G)
      go (slopes g) = in_all (size J) (iterations J) (backtracks J) p.evaluations h
      go (unusable x) = tt

  by-finish : (d : Diagnostics) (s : State) → evaluations_in s ≤ 1 + iterations J * most → Counted J (finished J d s)
  by-finish d (going p) h = by-close d MaximumIterations p h
  by-finish d (stopped r p) h = by-close d r p h
  by-finish d (refused r) h = tt

  by-fit : (L : Likelihood) → Counted J (fit_by J L)
  by-fit (Ok d) = by-finish d (after J (iterations J)) (counts (iterations J))
  by-fit (Err Probabilities) = tt
  by-fit (Err (Refused r)) = tt

-- a sheet's evaluations are at most 1 + 2P(I + 1) + I·B
pub evaluations-bound : (J : Job) → Counted J (fit_of J)
unfolding fit_of
evaluations-bound J = by-fit J (J.likelihood J.model)
