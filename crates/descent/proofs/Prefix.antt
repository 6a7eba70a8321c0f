-- Two claims of jobs that differ in max_iterations alone: the points of the larger limit begin with those of the smaller. Assumes nothing.
use Prim.Native.Nat.{ℕ, zero, suc, ◌≤◌, ◌<◌}
use mathlib.Core.Path.{◌≡◌, sym, ap, subst, subst₂, ◌∙◌}
use mathlib.Core.Bool.{true}
use mathlib.Core.List.{List, []}
use mathlib.Core.Logic.{⊎_elim}
use native.Mathlib.Nat.{eq-or-lt_of_le}
use native.Mathlib.Omega.{arith}
use lib.ListN.{length, get_or, take}
use lib.Seq.{ext_get_or, get_or-take, length-take-le, take_all}
use lib.Ieee.{Float}
use Rattle.booleans.proofs.Joined.{clash}
use Rattle.descent.specs.declared.GstTermination.{GstTermination}
use Rattle.descent.specs.declared.GstTermination.TheVariants.{GradientTolerance, ObjectiveTolerance, MaximumIterations, LineSearchStalled}
use Rattle.descent.specs.Fit.{Job, Fitted, iterations, distance, objective_of, evaluate, displacement, derivative, gradient, norm, step_length, trial, small}
use Rattle.descent.specs.Claim.{Accepts, BornOut, Claim, evaluation, objective_at, gradient_at, flat_by, trial_at, refused_trial}
use Rattle.descent.proofs.Laws.{by_order}

-- the job with another limit
abbrev pub limited : ℕ → Job → Job
limited n J = record {
  model = J.model;
  places = J.places;
  config = record {
    max_iterations = n;
    initial_step = J.config.initial_step;
    finite_difference_step = J.config.finite_difference_step;
    gradient_tolerance = J.config.gradient_tolerance;
    objective_tolerance = J.config.objective_tolerance;
    probability_tolerance = J.config.probability_tolerance;
    max_backtracks = J.config.max_backtracks;
    anchor_strength = J.config.anchor_strength;
  };
  likelihood = J.likelihood;
}

-- the first trial that is not refused is one
one-next : (J : Job) (m a b : List Float) → Accepts J m a → Accepts J m b → a ≡ b
one-next J m a b p q =
    by_order p.trial_number q.trial_number
    (λ l. clash _ (q.first p.trial_number l) p.stands)
    (λ l.
    ⊎_elim (λ (e : q.trial_number ≡ p.trial_number). p.leads ∙ ap (trial_at J m) (sym e) ∙ sym q.leads) (λ (h : q.trial_number < p.trial_number). clash _ (p.first q.trial_number h) q.stands)
    (eq-or-lt_of_le l))

module _ (J : Job) (n : ℕ) where
  -- no test looks at the limit
  same_step : (m a : List Float) → Accepts (limited n J) m a → Accepts J m a
  unfolding evaluation distance objective_of evaluate displacement derivative gradient step_length trial
  same_step m a p = record { trial_number = p.trial_number; allowed = p.allowed; leads = p.leads; stands = p.stands; first = p.first; lower = p.lower }

  same-flat : (m : List Float) → flat_by (limited n J) (gradient_at (limited n J) m) ≡ true → flat_by J (gradient_at J m) ≡ true
  unfolding evaluation distance objective_of evaluate displacement derivative gradient norm
  same-flat m e = e

  same_drop : (a b : List Float) → small (limited n J) (objective_at (limited n J) a) (objective_at (limited n J) b) ≡ true → small J (objective_at J a) (objective_at J b) ≡ true
  unfolding evaluation distance objective_of
  same_drop a b e = e

  same-refusal : (m : List Float) (j : ℕ) → refused_trial (limited n J) m j ≡ true → refused_trial J m j ≡ true
  unfolding evaluation distance objective_of evaluate displacement derivative gradient step_length trial
  same-refusal m j e = e

  module _ (s t : Fitted) (ps qs : List (List Float)) (p : Claim J s ps) (q : Claim (limited n J) t qs) where
    -- as far as both go, the points are the same
    pub same_points : (k : ℕ) → k ≤ s.steps → k ≤ t.steps → get_or qs k [] ≡ get_or ps k []
    same_points zero h i = q.starts ∙ sym p.starts
    same_points (suc k) h i =
        let e = same_points k (omega arith) (omega arith) in
        one-next J (get_or ps k []) _ _ (subst (λ (m : List Float). Accepts J m (get_or qs (suc k) [])) e (same_step _ _ (q.each k i))) (p.each k h)

    -- a reason that stops the one is true of the other's point too
    back : (k : ℕ) (r : GstTermination) → k ≤ s.steps → k ≤ t.steps → BornOut (limited n J) (λ k. get_or qs k []) k r → (k ≡ n → k ≡ iterations J) → BornOut J (λ k. get_or ps k []) k r
    back k GradientTolerance h i b _ = subst (λ (m : List Float). flat_by J (gradient_at J m) ≡ true) (same_points k h i) (same-flat (get_or qs k []) b)
    back zero ObjectiveTolerance h i b _ = b
    back (suc k) ObjectiveTolerance h i b _ =
        subst₂ (λ (m o : List Float). small J (objective_at J m) (objective_at J o) ≡ true) (same_points k (omega arith) (omega arith)) (same_points (suc k) h i)
        (same_drop (get_or qs k []) (get_or qs (suc k) []) b)
    back k MaximumIterations h i b f = f b
    back k LineSearchStalled h i b _ = λ j l. subst (λ (m : List Float). refused_trial J m j ≡ true) (same_points k h i) (same-refusal (get_or qs k []) j (b j l))

    -- the larger limit takes no fewer steps
    pub no-fewer : iterations J ≤ n → s.steps ≤ t.steps
    no-fewer l =
        by_order t.steps s.steps
        (λ h. absurd (p.not_before t.steps t.stop h (back t.steps t.stop (omega arith) (omega arith) q.borne_out (λ e. absurd (omega (arith, p.allowed))))))
        (λ h. h)

    -- and its points begin with the smaller's
    pub begins : iterations J ≤ n → take (length ps) qs ≡ ps
    begins l =
        let w : length (take (length ps) qs) ≡ length ps = length-take-le (length ps) qs (omega (arith, p.number_of, q.number_of, no-fewer l)) in
        ext_get_or [] (take (length ps) qs) ps w
        (λ i h.
        let u : i < length ps = omega (arith, w) in
        get_or-take (length ps) qs i [] u ∙ same_points i (omega (arith, p.number_of)) (omega (arith, p.number_of, no-fewer l)))

-- at one limit only one list of points has the claim
pub one_list : (J : Job) (s t : Fitted) (ps qs : List (List Float)) → Claim J s ps → Claim J t qs → qs ≡ ps
one_list J s t ps qs p q =
    let i = iterations J in
    let a : t.steps ≤ s.steps = no-fewer J i t s qs ps q p (omega arith) in
    sym (take_all (length ps) qs (omega (arith, p.number_of, q.number_of))) ∙ begins J i s t ps qs p q (omega arith)
