-- How a fit ends: the sheet of its last point. Assumes nothing.
use Rattle.std.proofs.Common.{Ok}
use Prim.Native.Nat.{◌*◌}
use mathlib.Core.Path.{◌≡◌, refl, sym, ap, ap₂, ◌∙◌}
use mathlib.Core.Bool.{Bool, true}
use mathlib.Core.List.{List}
use lib.Ieee.{Float, le}
use Rattle.numbers.proofs.Leaves.{clash}
use Rattle.refusal.specs.declared.Refusal.{Refusal}
use Rattle.likelihood.specs.declared.Diagnostics.{Diagnostics}
use Rattle.likelihood.specs.Multinomial.{Likelihood}
use Rattle.descent.specs.declared.GstTermination.{GstTermination}
use Rattle.descent.specs.declared.GstTermination.TheVariants.{GradientTolerance, ObjectiveTolerance, MaximumIterations, LineSearchStalled}
use Rattle.descent.specs.Fit.{Job, Point, unfitted, unusable, size, model_of, diagnostics_in, gradient, reason_at, closed_by, closed}
use Rattle.steps.specs.Running.{Sloped, Steep, keeps_norm}
use Rattle.fit.specs.declared.Shown.{Shown}
use Rattle.fit.specs.Outcome.{shown_by, shown_of, outcome_of}

-- such a reason is none that the last test changes
reason_kept : (r : GstTermination) (b : Bool) → keeps_norm r ≡ true → r ≡ reason_at r b
reason_kept GradientTolerance b h = refl
reason_kept ObjectiveTolerance b h = refl
reason_kept MaximumIterations b h = clash h
reason_kept LineSearchStalled b h = refl

module _ (J : Job) (d : Diagnostics) (r : GstTermination) (p : Point) where
  -- the sheet by the likelihood l of the model m
  pub shown : (z : Float) (m : List Float) (l : Likelihood) (f : Diagnostics) → m ≡ model_of J p.coordinates → l ≡ J.likelihood m → f ≡ diagnostics_in l
      → shown_by d r z p (2 * size J) f ≡ shown_of J d r z p
  shown z m l f a b e = ap (shown_by d r z p (2 * size J)) (e ∙ ap diagnostics_in (b ∙ ap J.likelihood a))

  -- the final gradient is g, of norm z
  pub closes : (g : List Float) (z : Float) (k : GstTermination) (q : Shown) (m : List Float) → Sloped J p g (Ok z) → k ≡ reason_at r (le z J.config.gradient_tolerance) → m ≡ model_of J p.coordinates → q ≡ shown_of J d k z p → outcome_of (Ok q) m ≡ closed J d r p
  unfolding closed
  closes g z k q m f e a s =
      ap₂ (λ (q : Shown) (m : List Float). outcome_of (Ok q) m) s a
      ∙ ap₂ (λ (k : GstTermination) (z : Float). outcome_of (Ok (shown_of J d k z p)) (model_of J p.coordinates)) (e ∙ ap (λ (z : Float). reason_at r (le z J.config.gradient_tolerance)) f.1) f.1
      ∙ sym (ap (closed_by J d r p) f.0)

  -- it is unusable
  pub closes-refused : {x : Refusal} → gradient J p.coordinates p.objective ≡ unusable x → unfitted x ≡ closed J d r p
  unfolding closed
  closes-refused f = sym (ap (closed_by J d r p) f)

  -- it was worked out before
  pub known : (z : Float) (q : Shown) (m : List Float) → (keeps_norm r ≡ true → Steep J p z) → keeps_norm r ≡ true → m ≡ model_of J p.coordinates → q ≡ shown_of J d r z p
      → outcome_of (Ok q) m ≡ closed J d r p
  known z q m s k a w =
      let g = s k in
      closes g.slope z r q m g.sloped (reason_kept r _ k) a w
