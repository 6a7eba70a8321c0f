-- The loop over the steps: a fit that has stopped stays as it is. Assumes nothing.
use Rattle.std.proofs.Common.{Option, Some, None, is_some}
use Prim.Native.Nat.{ℕ, ◌+◌, ◌≤◌, ◌<◌}
use mathlib.Core.Path.{◌≡◌, refl, sym, ◌∙◌}
use mathlib.Core.Bool.{true, false}
use native.Mathlib.Omega.{arith}
use Rattle.lists.specs.Fold.{fold}
use Rattle.lists.proofs.Folding.{fold_more, fold_stays}
use Rattle.numbers.proofs.Leaves.{clash}
use Rattle.refusal.specs.declared.Refusal.{Refusal}
use Rattle.descent.specs.declared.GstTermination.{GstTermination}
use Rattle.descent.specs.Fit.{Job, Point, State, refused, next, step}
use Rattle.steps.specs.declared.Running.{Running}
use Rattle.steps.specs.Running.{point_of, state_by, state_of}

goes : (J : Job) (s : Option GstTermination) (p : Point) → is_some s ≡ false → step J p ≡ next J (state_by s p)
goes J None p h = refl
goes J (Some k) p h = clash (sym h)

stays : (J : Job) (s : Option GstTermination) (p : Point) → is_some s ≡ true → next J (state_by s p) ≡ state_by s p
stays J None p h = clash h
stays J (Some k) p h = refl

-- with m coordinates, from the state s
module _ (J : Job) (m : ℕ) (s : State) (i : ℕ) (r : Running) (e : state_of m r ≡ fold i (λ _ s. next J s) s) where
  -- a step more, to t
  pub run_more : (t : State) → is_some r.stop ≡ false → t ≡ step J (point_of m r) → t ≡ fold (i + 1) (λ _ s. next J s) s
  run_more t g f = fold_more (λ _ s. next J s) i s (state_of m r) t e (f ∙ goes J r.stop (point_of m r) g)

  -- it has stopped before the limit n
  pub run-ended : (n : ℕ) → i ≤ n → is_some r.stop ≡ true → state_of m r ≡ fold n (λ _ s. next J s) s
  run-ended n l g = sym (fold_stays (λ _ s. next J s) (state_of m r) (λ _. stays J r.stop (point_of m r) g) n i s l (sym e))

  -- the next step refuses it
  pub run-refused : (n : ℕ) (x : Refusal) → i < n → is_some r.stop ≡ false → refused x ≡ step J (point_of m r) → refused x ≡ fold n (λ _ s. next J s) s
  run-refused n x l g f = sym (fold_stays (λ _ s. next J s) (refused x) (λ _. refl) n (i + 1) s (omega arith) (sym (run_more (refused x) g f)))
