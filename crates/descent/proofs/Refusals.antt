-- By what a fit can be refused: a number that is not finite (3), a gradient that is not (13, reason 5), failing probabilities (8), and what refuses a likelihood.
-- Assumes nothing.
use Rattle.std.proofs.Common.{Err, None, Ok, Some}
use Rattle.likelihood.specs.declared.Unfit.TheVariants.{Probabilities, Refused}
use Prim.Native.Nat.{ℕ, ◌+◌, ◌*◌}
use mathlib.Core.Bool.{Bool, cond}
use mathlib.Core.List.{List, []}
use lib.ListN.{set}
use lib.Ieee.{Float, lt}
use Rattle.lists.proofs.Folding.{fold-keeps}
use Rattle.numbers.specs.Number.{finite, zero_f, two_f, ◌+ᶠ◌, ◌-ᶠ◌, ◌*ᶠ◌, ◌/ᶠ◌}
use Rattle.numbers.specs.Slice.{at, all_finite}
use Rattle.refusal.specs.declared.Refusal.{Refusal}
use Rattle.refusal.specs.declared.Reason.TheVariants.{GradientNotFinite}
use Rattle.refusal.specs.declared.Refusal.TheVariants.{NonFinite, InvalidProbabilities, InvalidGstOptimization}
use Rattle.likelihood.specs.declared.Diagnostics.{Diagnostics}
use Rattle.likelihood.specs.Multinomial.{Likelihood}
use Rattle.descent.specs.Fit.{found, Evaluated, Derivative, Search, Job, Point, State, going, stopped, refused, Slopes, slopes, unusable, Outcome, fitted, unfitted, usable, difference_of, with_slope, judged, size, backtracks, iterations, model_of, scored, evaluate, displacement, derivative, gradient, flat, trial, onward, search_to, small, counted, searched, step_by, step, next, begin_by, after, closed_by, closed, finished, fit_by, fit_of}
use Rattle.descent.specs.declared.GstTermination.{GstTermination}
use Rattle.descent.specs.declared.GstTermination.TheVariants.{GradientTolerance, ObjectiveTolerance, MaximumIterations}
use Rattle.descent.proofs.Laws.{split}

-- P holds of the refusal that a value carries, if it does
module _ (P : Refusal → Type 0) where
  abbrev pub InLikelihood : Likelihood → Type 0
  InLikelihood (Ok d) = Unit {0}
  InLikelihood (Err Probabilities) = Unit {0}
  InLikelihood (Err (Refused r)) = P r

  abbrev InEvaluated : Evaluated → Type 0
  InEvaluated (Ok (Some o)) = Unit {0}
  InEvaluated (Ok None) = Unit {0}
  InEvaluated (Err r) = P r

  abbrev InDerivative : Derivative → Type 0
  InDerivative (Ok v) = Unit {0}
  InDerivative (Err r) = P r

  abbrev InSlopes : Slopes → Type 0
  InSlopes (slopes g) = Unit {0}
  InSlopes (unusable r) = P r

  abbrev InSearch : Search → Type 0
  InSearch (Ok None) = Unit {0}
  InSearch (Ok (Some a)) = Unit {0}
  InSearch (Err r) = P r

  abbrev InState : State → Type 0
  InState (going p) = Unit {0}
  InState (stopped r p) = Unit {0}
  InState (refused r) = P r

  abbrev pub InOutcome : Outcome → Type 0
  InOutcome (fitted f) = Unit {0}
  InOutcome (unfitted r) = P r

module _ (J : Job) (P : Refusal → Type 0) (not-Finite : P NonFinite) (no-gradient : P (InvalidGstOptimization GradientNotFinite)) (failing : P InvalidProbabilities)
    (likelihoods : (m : List Float) → InLikelihood P (J.likelihood m)) where
  in-scored : (L : Likelihood) (xs : List Float) → InLikelihood P L → InEvaluated P (scored J L xs)
  in-scored (Ok d) xs h = tt
  in-scored (Err Probabilities) xs h = tt
  in-scored (Err (Refused r)) xs h = h

  in-evaluate : (xs : List Float) → InEvaluated P (evaluate J xs)
  unfolding evaluate
  in-evaluate xs =
      split (λ (b : Bool). InEvaluated P (cond b (scored J (J.likelihood (model_of J xs)) xs) (Err NonFinite))) (all_finite xs)
      (λ _. in-scored (J.likelihood (model_of J xs)) xs (likelihoods (model_of J xs)))
      (λ _. not-Finite)

  in-usable : (v : Float) → InDerivative P (usable v)
  unfolding usable
  in-usable v = split (λ (b : Bool). InDerivative P (cond b (Ok v) (Err (InvalidGstOptimization GradientNotFinite)))) (finite v) (λ _. tt) (λ _. no-gradient)

  in-difference : (o h : Float) (r l : Evaluated) → InEvaluated P r → InEvaluated P l → InDerivative P (difference_of o h r l)
  in-difference o h (Ok (Some r)) (Ok (Some l)) p q = in-usable ((r -ᶠ l) /ᶠ (two_f *ᶠ h))
  in-difference o h (Ok (Some r)) (Ok None) p q = in-usable ((r -ᶠ o) /ᶠ h)
  in-difference o h (Ok (Some r)) (Err x) p q = q
  in-difference o h (Ok None) (Ok (Some l)) p q = in-usable ((o -ᶠ l) /ᶠ h)
  in-difference o h (Ok None) (Ok None) p q = in-usable zero_f
  in-difference o h (Ok None) (Err x) p q = q
  in-difference o h (Err x) l p q = p

  in-with : (g : Slopes) (d : Derivative) → InSlopes P g → InDerivative P d → InSlopes P (with_slope g d)
  in-with (slopes g) (Ok v) p q = tt
  in-with (slopes g) (Err r) p q = q
  in-with (unusable r) d p q = p

  in-derivative : (xs : List Float) (o : Float) (i : ℕ) → InDerivative P (derivative J xs o i)
  unfolding derivative
  in-derivative xs o i =
      let h = displacement J (at xs i) in
      let r = set xs i (at xs i +ᶠ h) in
      let l = set xs i (at xs i -ᶠ h) in
      in-difference o h (evaluate J r) (evaluate J l) (in-evaluate r) (in-evaluate l)

  in-gradient : (xs : List Float) (o : Float) → InSlopes P (gradient J xs o)
  unfolding gradient
  in-gradient xs o = fold-keeps _ (InSlopes P) _ (slopes []) tt (λ i g _ p. in-with g (derivative J xs o i) p (in-derivative xs o i))

  in-judged : (o : Float) (k : ℕ) (e : Evaluated) → InEvaluated P e → InSearch P (judged o k e)
  in-judged o k (Ok (Some v)) p = split (λ (b : Bool). InSearch P (cond b (found k v) (Ok None))) (lt v o) (λ _. tt) (λ _. tt)
  in-judged o k (Ok None) p = tt
  in-judged o k (Err r) p = p

  in-onward : (xs g : List Float) (o : Float) (k : ℕ) (t : Search) → InSearch P t → InSearch P (onward J xs g o k t)
  in-onward xs g o k (Ok None) p = in-judged o k (evaluate J (trial J xs g k)) (in-evaluate (trial J xs g k))
  in-onward xs g o k (Ok (Some a)) p = p
  in-onward xs g o k (Err r) p = p

  in-search : (xs g : List Float) (o : Float) (n : ℕ) → InSearch P (search_to J xs g o n)
  unfolding search_to
  in-search xs g o n = fold-keeps _ (InSearch P) n (Ok None) tt (λ k t _ p. in-onward xs g o k t p)

  in-searched : (p : Point) (g : List Float) (t : Search) → InSearch P t → InState P (searched J p g t)
  in-searched p g (Ok None) h = tt
  in-searched p g (Ok (Some a)) h =
      let q : Point = record { coordinates = trial J p.coordinates g a.trial; objective = a.objective; steps = p.steps + 1; evaluations = p.evaluations + (2 * size J + (a.trial + 1)) } in
      split (λ (b : Bool). InState P (cond b (stopped ObjectiveTolerance q) (going q))) (small J p.objective a.objective) (λ _. tt) (λ _. tt)
  in-searched p g (Err r) h = h

  in_step : (p : Point) (G : Slopes) → InSlopes P G → InState P (step_by J p G)
  in_step p (slopes g) h =
      let t = search_to J p.coordinates g p.objective (backtracks J) in
      split (λ (b : Bool). InState P (cond b (stopped GradientTolerance (counted J (2 * size J) p)) (searched J p g t))) (flat J g)
      (λ _. tt)
      (λ _. in-searched p g t (in-search p.coordinates g p.objective (backtracks J)))
  in_step p (unusable r) h = h

  in-next : (u : State) → InState P u → InState P (next J u)
  unfolding step
  in-next (going p) h = in_step p (gradient J p.coordinates p.objective) (in-gradient p.coordinates p.objective)
  in-next (stopped r p) h = h
  in-next (refused r) h = h

  in-begin : (L : Likelihood) → InLikelihood P L → InState P (begin_by J L)
  in-begin (Ok d) h = tt
  in-begin (Err Probabilities) h = failing
  in-begin (Err (Refused r)) h = h

  in_after : (n : ℕ) → InState P (after J n)
  unfolding after
  in_after n = fold-keeps _ (InState P) n _ (in-begin (J.likelihood J.model) (likelihoods J.model)) (λ i u _ p. in-next u p)

  in-closed : (d : Diagnostics) (r : GstTermination) (p : Point) → InOutcome P (closed J d r p)
  unfolding closed
  in-closed d r p = go (gradient J p.coordinates p.objective) (in-gradient p.coordinates p.objective)
    where
      go : (G : Slopes) → InSlopes P G → InOutcome P (closed_by J d r p G)
      go (slopes g) h = tt
      go (unusable x) h = h

  in-finished : (d : Diagnostics) (u : State) → InState P u → InOutcome P (finished J d u)
  in-finished d (going p) h = in-closed d MaximumIterations p
  in-finished d (stopped r p) h = in-closed d r p
  in-finished d (refused x) h = h

  in-fit : (L : Likelihood) → InLikelihood P L → InOutcome P (fit_by J L)
  in-fit (Ok d) h = in-finished d (after J (iterations J)) (in_after (iterations J))
  in-fit (Err Probabilities) h = failing
  in-fit (Err (Refused r)) h = h

  pub refusals-in : InOutcome P (fit_of J)
  unfolding fit_of
  refusals-in = in-fit (J.likelihood J.model) (likelihoods J.model)
