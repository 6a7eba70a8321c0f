-- What the first n trials of a search have shown, in words of the trials' models. Assumes nothing.
use Rattle.std.proofs.Common.{Err, None, Ok, Some}
use Prim.Native.Nat.{ℕ, zero, suc, ◌<◌}
use mathlib.Core.Path.{◌≡◌, ap, ◌∙◌}
use mathlib.Core.Bool.{Bool, true, not, cond}
use mathlib.Core.List.{List}
use native.Mathlib.Omega.{arith}
use lib.Ieee.{Float, lt}
use Rattle.lists.specs.Fold.{fold}
use Rattle.refusal.specs.declared.Refusal.{Refusal}
use Rattle.descent.specs.Fit.{found, Evaluated, Search, Job, model_of, evaluate, trial, judged, onward, search_to}
use Rattle.descent.specs.Claim.{Sound, refused_at, evaluation}
use Rattle.descent.proofs.Laws.{split, one_more}
use Rattle.descent.proofs.Models.{same-evaluation, read-trial}

-- a search along g from xs, where the objective is o
module _ (J : Job) (xs g : List Float) (o : Float) where
  -- trial k, evaluated, and whether it is refused
  abbrev evaluation_of : ℕ → Evaluated
  evaluation_of k = evaluation J (model_of J (trial J xs g k))

  abbrev Refuses : ℕ → Type 0
  Refuses k = refused_at o (evaluation_of k) ≡ true

  -- no trial of the first n stands; trial k is the first that does; or one has refused the whole fit
  pub data Looked (n : ℕ) : Search → Type 0 where
    none : ((j : ℕ) → j < n → Refuses j) → Looked n (Ok None)
    one : (k : ℕ) (v : Float) → k < n → evaluation_of k ≡ Ok (Some v) → lt v o ≡ true → ((j : ℕ) → j < k → Refuses j) → Looked n (found k v)
    lost : (r : Refusal) → Looked n (Err r)

  judge : (n : ℕ) (e : Evaluated) → evaluation_of n ≡ e → ((j : ℕ) → j < n → Refuses j) → Looked (suc n) (judged o n e)
  judge n (Ok (Some v)) a h =
      split (λ (b : Bool). Looked (suc n) (cond b (found n v) (Ok None))) (lt v o)
      (λ t. one n v (omega arith) a t h)
      (λ f. none (one_more n h (ap (refused_at o) a ∙ ap not f)))
  judge n (Ok None) a h = none (one_more n h (ap (refused_at o) a))
  judge n (Err r) a h = lost r

  module _ (s : Sound J) where
    look : (n : ℕ) {t : Search} → Looked n t → Looked (suc n) (onward J xs g o n t)
    look n (none h) = judge n (evaluate J (trial J xs g n)) (same-evaluation J (trial J xs g n) (read-trial J s xs g n)) h
    look n (one k v l a t h) = one k v (omega arith) a t h
    look n (lost r) = lost r

    pub looked : (n : ℕ) → Looked n (search_to J xs g o n)
    unfolding search_to fold
    looked zero = none (λ j h. absurd (omega arith))
    looked (suc n) = look n (looked n)
