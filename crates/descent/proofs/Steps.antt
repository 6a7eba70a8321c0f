-- One step of a fit, in words of its models. Assumes nothing.
use Rattle.std.proofs.Common.{Ok, Some}
use Prim.Native.Nat.{ℕ, suc, ◌+◌, ◌*◌, ◌<◌}
use mathlib.Core.Path.{◌≡◌, refl, sym, ap, ap₂, ◌∙◌}
use mathlib.Core.Bool.{Bool, true, false, not, cond}
use mathlib.Core.List.{List}
use native.Mathlib.Numerals.{add-one}
use lib.Ieee.{Float, lt}
use Rattle.refusal.specs.declared.Refusal.{Refusal}
use Rattle.descent.specs.Fit.{Search, Job, Point, State, going, stopped, refused, Slopes, slopes, unusable, size, backtracks, coordinates_of, model_of, gradient, flat, trial, search_to, small, counted, searched, step_by, step}
use Rattle.descent.specs.declared.GstTermination.TheVariants.{GradientTolerance, ObjectiveTolerance, LineSearchStalled}
use Rattle.descent.specs.Claim.{Sound, Accepts, evaluation, objective_in, gradient_at, flat_by, slopes_in, trial_at, refused_trial, refused_at}
use Rattle.descent.proofs.Laws.{split}
use Rattle.descent.proofs.Models.{read-trial}
use Rattle.descent.proofs.Searches.{Looked, none, one, lost, looked}

module _ (J : Job) where
  abbrev pub model_at : Point → List Float
  model_at p = model_of J p.coordinates

  -- the gradient test of a model
  abbrev pub flat_at : List Float → Bool
  flat_at m = flat_by J (gradient_at J m)

  -- a point's numbers are its model's, and its objective is that worked out afresh
  pub record Good (p : Point) : Type 0 where
    pub read : coordinates_of J (model_at p) ≡ p.coordinates
    pub value : evaluation J (model_at p) ≡ Ok (Some p.objective)

  -- an accepted step
  pub record Moves (p q : Point) : Type 0 where
    pub good : Good q
    pub count : q.steps ≡ suc p.steps
    pub tilted : flat_at (model_at p) ≡ false
    pub accepts : Accepts J (model_at p) (model_at q)

  pub data Stepped (p : Point) : State → Type 0 where
    moved : (q : Point) → Moves p q → small J p.objective q.objective ≡ false → Stepped p (going q)
    dropped : (q : Point) → Moves p q → small J p.objective q.objective ≡ true → Stepped p (stopped ObjectiveTolerance q)
    level : (n : ℕ) → flat_at (model_at p) ≡ true → Stepped p (stopped GradientTolerance (counted J n p))
    stuck : (n : ℕ) → flat_at (model_at p) ≡ false → ((j : ℕ) → j < backtracks J → refused_trial J (model_at p) j ≡ true) → Stepped p (stopped LineSearchStalled (counted J n p))
    gone : (r : Refusal) → Stepped p (refused r)

  module _ (p : Point) (ok : Good p) where
    pub same-gradient : gradient_at J (model_at p) ≡ gradient J p.coordinates p.objective
    same-gradient = ap₂ (gradient J) ok.read (ap objective_in ok.value)

    module _ (g : List Float) (e : gradient J p.coordinates p.objective ≡ slopes g) where
      pub same-flat : flat_at (model_at p) ≡ flat J g
      same-flat = ap (flat_by J) (same-gradient ∙ e)

      same-trial : (j : ℕ) → trial_at J (model_at p) j ≡ model_of J (trial J p.coordinates g j)
      same-trial j = ap₂ (λ (ys h : List Float). model_of J (trial J ys h j)) ok.read (ap slopes_in (same-gradient ∙ e))

      same-refusal : (j : ℕ) → refused_trial J (model_at p) j ≡ refused_at p.objective (evaluation J (model_of J (trial J p.coordinates g j)))
      same-refusal j = ap₂ (λ (o : Float) (m : List Float). refused_at o (evaluation J m)) (ap objective_in ok.value) (same-trial j)

      by-search : {t : Search} → Sound J → flat J g ≡ false → Looked J p.coordinates g p.objective (backtracks J) t → Stepped p (searched J p g t)
      by-search s f (none h) = stuck _ (same-flat ∙ f) (λ j l. same-refusal j ∙ h j l)
      by-search s f (one k v l a b h) =
          let q : Point = record { coordinates = trial J p.coordinates g k; objective = v; steps = p.steps + 1; evaluations = p.evaluations + (2 * size J + (k + 1)) } in
          let mv : Moves p q = record {
            good = record { read = read-trial J s p.coordinates g k; value = a };
            count = add-one p.steps;
            tilted = same-flat ∙ f;
            accepts = record {
              trial_number = k;
              allowed = l;
              leads = sym (same-trial k);
              stands = same-refusal k ∙ ap (refused_at p.objective) a ∙ ap not b;
              first = λ j i. same-refusal j ∙ h j i;
              lower = ap₂ lt (ap objective_in a) (ap objective_in ok.value) ∙ b;
            };
          } in
          split (λ (t : Bool). Stepped p (cond t (stopped ObjectiveTolerance q) (going q))) (small J p.objective v)
          (λ t. dropped q mv t)
          (λ t. moved q mv t)
      by-search s f (lost r) = gone r

    by-gradient : (s : Sound J) (G : Slopes) → gradient J p.coordinates p.objective ≡ G → Stepped p (step_by J p G)
    by-gradient s (slopes g) e =
        split (λ (b : Bool). Stepped p (cond b (stopped GradientTolerance (counted J (2 * size J) p)) (searched J p g (search_to J p.coordinates g p.objective (backtracks J))))) (flat J g)
        (λ t. level _ (same-flat g e ∙ t))
        (λ f. by-search g e s f (looked J p.coordinates g p.objective s (backtracks J)))
    by-gradient s (unusable r) e = gone r

    pub stepped : Sound J → Stepped p (step J p)
    unfolding step
    stepped s = by-gradient s (gradient J p.coordinates p.objective) refl
