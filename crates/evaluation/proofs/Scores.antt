-- No score depends on the deviance; and two scores in a list. Assumes nothing.
use Rattle.std.proofs.Common.{Err, Ok, Some}
use mathlib.Core.Path.{◌≡◌, ap, ◌∙◌}
use mathlib.Core.Bool.{true, false}
use mathlib.Core.List.{List, [], ◌∷◌}
use lib.ListN.{get_or}
use Prim.Native.Nat.{ℕ}
use lib.Ieee.{Float}
use Rattle.lists.proofs.Choices.{yes}
use Rattle.numbers.specs.Slice.{all_finite}
use Rattle.refusal.specs.declared.Refusal.TheVariants.{NonFinite}
use Rattle.logarithm.specs.Steps.{ln}
use Rattle.card_layout.specs.declared.Header.{Header}
use Rattle.likelihood.specs.declared.Unfit.{Unfit}
use Rattle.likelihood.specs.Multinomial.{Likelihood, Alike}
use Rattle.diagnostics.specs.Diagnostics.{likelihood_of}
use Rattle.diagnostics.proofs.Models.{likelihood-alike}
use Rattle.descent.specs.declared.GstOptimizerConfig.{GstOptimizerConfig}
use Rattle.descent.specs.Fit.{Evaluated, Job, model_of, objective_of, scored, evaluate}
use Rattle.objective.specs.Job.{job_by}

-- the entries of a list of two
module _ {A : Type 0} (z a b : A) (l : List A) (e : l ≡ a ∷ (b ∷ [])) where
  pub first_of_two : get_or l 0 z ≡ a
  first_of_two = ap (λ (l : List A). get_or l 0 z) e

  pub second_of_two : get_or l 1 z ≡ b
  second_of_two = ap (λ (l : List A). get_or l 1 z) e

module _ (J : Job) where
  scored-alike : (l k : Likelihood) (xs : List Float) → Alike l k → scored J l xs ≡ scored J k xs
  scored-alike (Ok d) (Ok e) xs a = ap (λ (t : Float). Ok (Some (objective_of J t xs))) a
  scored-alike (Ok d) (Err u) xs a = absurd a
  scored-alike (Err u) (Ok e) xs a = absurd a
  scored-alike (Err u) (Err v) xs a = ap (λ (u : Unfit). scored J (Err u) xs) a

-- by a likelihood without the deviance of the model m
pub evaluate-by : (s : List ℕ) (h : Header) (places : List ℕ) (c : GstOptimizerConfig) (xs m : List Float) (l : Likelihood) (e : Evaluated)
    → all_finite xs ≡ true → m ≡ model_of (job_by s h places c) xs → l ≡ likelihood_of false c.probability_tolerance s h m → e ≡ scored (job_by s h places c) l xs
    → e ≡ evaluate (job_by s h places c) xs
unfolding evaluate
evaluate-by s h places c xs m l e f a b q =
    let J = job_by s h places c in
    q
    ∙ ap (λ (l : Likelihood). scored J l xs) (b ∙ ap (likelihood_of false c.probability_tolerance s h) a)
    ∙ scored-alike J (likelihood_of false c.probability_tolerance s h (model_of J xs)) (J.likelihood (model_of J xs)) xs
    (likelihood-alike ln false true c.probability_tolerance s h (model_of J xs))
    ∙ yes (Err NonFinite) f
