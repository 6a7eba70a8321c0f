-- One step, by what was found on the way: where the code ends is where the step leads. Assumes nothing.
use Rattle.std.proofs.Common.{Some, None, Ok, Err}
use Prim.Native.Nat.{ℕ, ◌+◌, ◌*◌, ◌≤◌, ◌<◌}
use mathlib.Core.Path.{◌≡◌, refl, sym, ap, subst, ◌∙◌}
use mathlib.Core.Bool.{Bool, true, false, cond}
use mathlib.Core.List.{List, ◌++◌}
use native.Mathlib.Omega.{arith}
use lib.ListN.{length, take, drop}
use lib.Ieee.{Float, le}
use Rattle.lists.proofs.Choices.{yes, no}
use Rattle.lists.proofs.Filling.{length-build}
use Rattle.lists.proofs.Parts.{front-is}
use Rattle.numbers.proofs.Leaves.{clash}
use Rattle.numbers.specs.Number.{◌*ᶠ◌}
use Rattle.numbers.specs.Slice.{at}
use Rattle.root.specs.Root.{sqrt}
use Rattle.matrix.specs.Product.{sum_of}
use Rattle.refusal.specs.declared.Refusal.{Refusal}
use Rattle.descent.specs.declared.GstTermination.{GstTermination}
use Rattle.descent.specs.declared.GstTermination.TheVariants.{GradientTolerance, ObjectiveTolerance, LineSearchStalled}
use Rattle.descent.specs.Fit.{refused, found, Search, Job, Point, State, going, stopped, slopes, unusable, size, backtracks, gradient, flat, trial, search_to, small, searched, step_by, step}
use Rattle.descent.proofs.Laws.{split}
use Rattle.evaluation.proofs.Slopes.{norm-by}
use Rattle.search.specs.Found.{FoundAt}
use Rattle.steps.specs.declared.Running.{Running}
use Rattle.steps.specs.Running.{point_of, state_by, state_of, Sloped, Steep, keeps_norm, Normed, Follows, rest_of, accepted_of}

-- a trial that was found is one of the B, and y holds its numbers
pub found_of : (J : Job) (xs g y : List Float) (a : Search) {k : ℕ} {v : Float} → FoundAt J xs g y a → a ≡ found k v → (y ≡ trial J xs g k) × (k < backtracks J)
found_of J xs g y a f e = subst (FoundAt J xs g y) e f

length-trial : (J : Job) (xs g : List Float) (k : ℕ) → length (trial J xs g k) ≡ size J
unfolding trial
length-trial J xs g k = length-build (size J) _

-- the gradient's numbers came back as y, of norm z
pub sloped : (J : Job) (p : Point) (y : List Float) (z : Float) → slopes y ≡ gradient J p.coordinates p.objective → length y ≡ size J → z ≡ sqrt (sum_of (length y) (λ i. at y i *ᶠ at y i)) → Sloped J p y (Ok z)
sloped J p y z e n w = (sym e, norm-by J y z n w)

module _ (J : Job) (r : Running) where
  -- the gradient is unusable
  pub unsloped : (x : Refusal) → gradient J (take (size J) r.coordinates) r.objective ≡ unusable x → refused x ≡ step J (point_of (size J) r)
  unfolding step
  unsloped x f = sym (ap (step_by J (point_of (size J) r)) f)

  module _ (q : Running) where
    -- the fit stays where it is
    rest : (n : ℕ) (z : Float) (k : GstTermination) → n ≤ 383 → q ≡ rest_of r n z k → state_of (size J) (rest_of r n z k) ≡ step J (point_of (size J) r)
        → (keeps_norm k ≡ true → Steep J (point_of (size J) (rest_of r n z k)) z) → Follows J (size J) r q
    rest n z k l e f m = subst (Follows J (size J) r) (sym e) (record { state = f; steps = omega arith; evaluations = omega arith; normed = m })

  -- the gradient is g, of norm z
  module _ (g : List Float) (z : Float) (f : Sloped J (point_of (size J) r) g (Ok z)) (few : size J ≤ 64) (low : backtracks J ≤ 255) where
    by-slopes : step J (point_of (size J) r) ≡ step_by J (point_of (size J) r) (slopes g)
    unfolding step
    by-slopes = ap (step_by J (point_of (size J) r)) f.0

    test : {b : Bool} → le z J.config.gradient_tolerance ≡ b → flat J g ≡ b
    test h = ap (λ (z : Float). le z J.config.gradient_tolerance) (sym f.1) ∙ h

    -- it passes its test
    pub level : (q : Running) → le z J.config.gradient_tolerance ≡ true → q ≡ rest_of r (2 * size J) z GradientTolerance → Follows J (size J) r q
    level q h e = rest q (2 * size J) z GradientTolerance (omega arith) e (yes _ (test h) ∙ sym by-slopes) (λ _. record { slope = g; sloped = f })

    -- it fails its test, and the search ends with a
    module _ (h : le z J.config.gradient_tolerance ≡ false) (a : Search) (i : a ≡ search_to J (take (size J) r.coordinates) g r.objective (backtracks J)) where
      past : (s : State) {b : Search} → a ≡ b → s ≡ searched J (point_of (size J) r) g b → s ≡ step J (point_of (size J) r)
      past s j e = no _ (test h) (e ∙ ap (searched J (point_of (size J) r) g) (sym j ∙ i)) ∙ sym by-slopes

      pub stalled : (q : Running) → a ≡ Ok None → q ≡ rest_of r (2 * size J + backtracks J) z LineSearchStalled → Follows J (size J) r q
      stalled q j e = rest q (2 * size J + backtracks J) z LineSearchStalled (omega arith) e (past _ j refl) (λ _. record { slope = g; sloped = f })

      pub lost : (x : Refusal) → a ≡ Err x → refused x ≡ step J (point_of (size J) r)
      lost x j = past _ j refl

      -- the trial's numbers came back as y, at the front of a room that held l
      pub accepted : (q : Running) (y l : List Float) (k : ℕ) (v : Float) → FoundAt J (take (size J) r.coordinates) g y a → a ≡ found k v
          → q ≡ accepted_of r (y ++ drop (size J) l) v (2 * size J + (k + 1)) (small J r.objective v) → Follows J (size J) r q
      accepted q y l k v t j e =
          let o = found_of J (take (size J) r.coordinates) g y a t j in
          let long = length-trial J (take (size J) r.coordinates) g k in
          let c : 2 * size J + (k + 1) ≤ 383 = omega (arith, o.1) in
          subst (Follows J (size J) r) (sym e)
          (record {
            state = same (front-is (size J) y l (trial J (take (size J) r.coordinates) g k) o.0 long) ∙ past _ j refl;
            steps = omega arith;
            evaluations = omega arith;
            normed = split (λ (b : Bool). Normed J (point_of (size J) moved) r.norm (cond b (Some ObjectiveTolerance) None)) (small J r.objective v) (λ _ n. clash n) (λ _. tt);
          })
        where
          moved : Running
          moved = accepted_of r (y ++ drop (size J) l) v (2 * size J + (k + 1)) (small J r.objective v)

          there : List Float → Point
          there xs = record { coordinates = xs; objective = v; steps = r.steps + 1; evaluations = r.evaluations + (2 * size J + (k + 1)) }

          same : take (size J) (y ++ drop (size J) l) ≡ trial J (take (size J) r.coordinates) g k → state_of (size J) moved ≡ searched J (point_of (size J) r) g (found k v)
          same d =
              split (λ (b : Bool). state_by (cond b (Some ObjectiveTolerance) None) (point_of (size J) moved) ≡ cond b (stopped ObjectiveTolerance (there (trial J (take (size J) r.coordinates) g k))) (going (there (trial J (take (size J) r.coordinates) g k)))) (small J r.objective v)
              (λ _. ap (λ (xs : List Float). stopped ObjectiveTolerance (there xs)) d)
              (λ _. ap (λ (xs : List Float). going (there xs)) d)
