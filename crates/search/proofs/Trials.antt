-- The loop over the trials, which ends at the first that is found or that loses the fit. Assumes nothing.
use Rattle.std.proofs.Common.{Err, None, Ok, Some}
use Prim.Native.Nat.{ℕ, ◌+◌, ◌<◌}
use mathlib.Core.Path.{◌≡◌, refl, sym, ap, ap₂, ◌∙◌}
use mathlib.Core.Bool.{Bool, true, false, cond}
use mathlib.Core.List.{List}
use native.Mathlib.Numerals.{add-one}
use native.Mathlib.Omega.{arith}
use lib.Ieee.{Float, lt}
use Rattle.lists.specs.Build.{build}
use Rattle.lists.specs.Fold.{fold}
use Rattle.lists.proofs.Folding.{fold_stays}
use Rattle.numbers.specs.Number.{half_f, ◌-ᶠ◌, ◌*ᶠ◌}
use Rattle.numbers.specs.Slice.{at}
use Rattle.refusal.specs.declared.Refusal.{Refusal}
use Rattle.descent.specs.Fit.{found, Evaluated, Search, Job, size, evaluate, step_length, trial, judged, onward, search_to}

module _ (J : Job) where
  pub length-first : J.config.initial_step ≡ step_length J 0
  unfolding step_length fold
  length-first = refl

  pub length-halved : (k : ℕ) (s : Float) → s ≡ step_length J k → s *ᶠ half_f ≡ step_length J (k + 1)
  unfolding step_length fold
  length-halved k s e = rw add-one (ap (λ (t : Float). t *ᶠ half_f) e)

  pub trial-by : (xs g : List Float) (k n : ℕ) (s : Float) (t : List Float) → n ≡ size J → s ≡ step_length J k → t ≡ build n (λ i. at xs i -ᶠ s *ᶠ at g i) → t ≡ trial J xs g k
  unfolding trial
  trial-by xs g k n s t m e b = b ∙ ap₂ (λ (n : ℕ) (s : Float). build n (λ i. at xs i -ᶠ s *ᶠ at g i)) m e

  module _ (xs g : List Float) (o : Float) where
    pub search-none : search_to J xs g o 0 ≡ Ok None
    unfolding search_to fold
    search-none = refl

    -- trial k, which t holds, was evaluated as e, and none before it was found
    module _ (k : ℕ) (t : List Float) (e : Evaluated) (s : search_to J xs g o k ≡ Ok None) (i : t ≡ trial J xs g k) (p : e ≡ evaluate J t) where
      search-more : search_to J xs g o (k + 1) ≡ judged o k e
      unfolding search_to fold
      search-more = rw add-one (ap (onward J xs g o k) s ∙ ap (λ (t : List Float). judged o k (evaluate J t)) (sym i) ∙ ap (judged o k) (sym p))

      module _ (n : ℕ) (l : k < n) where
        ends : (x : Search) → ((j : ℕ) → onward J xs g o j x ≡ x) → judged o k e ≡ x → x ≡ search_to J xs g o n
        unfolding search_to
        ends x h f = sym (fold_stays (onward J xs g o) x h n (k + 1) (Ok None) (omega arith) (search-more ∙ f))

        pub search-found : (v : Float) → e ≡ Ok (Some v) → lt v o ≡ true → found k v ≡ search_to J xs g o n
        search-found v f b = ends (found k v) (λ i. refl) (ap (judged o k) f ∙ ap (λ (b : Bool). cond b (found k v) (Ok None)) b)

        pub search-lost : (r : Refusal) → Err r ≡ e → Err r ≡ search_to J xs g o n
        search-lost r f = ends (Err r) (λ i. refl) (ap (judged o k) (sym f))

      -- it was passed over, or is not below
      pub search-passed : e ≡ Ok None → search_to J xs g o (k + 1) ≡ Ok None
      search-passed f = search-more ∙ ap (judged o k) f

      pub search-on : (v : Float) → e ≡ Ok (Some v) → lt v o ≡ false → search_to J xs g o (k + 1) ≡ Ok None
      search-on v f b = search-more ∙ ap (judged o k) f ∙ ap (λ (b : Bool). cond b (found k v) (Ok None)) b

    pub search-all : (k n : ℕ) → k ≡ n → search_to J xs g o k ≡ Ok None → Ok None ≡ search_to J xs g o n
    search-all k n h e = sym e ∙ ap (search_to J xs g o) h
