-- The test of the values, and what follows it. Assumes nothing.
use Rattle.std.proofs.Common.{Err}
use Rattle.refusal.specs.Verdicts.{good, Verdict, first_of, after, finite_or, checked_numbers}
use Prim.Native.Nat.{ℕ, ◌*◌, ◌^◌}
use mathlib.Core.Path.{◌≡◌, refl, sym, ap, ap₂, ◌∙◌}
use mathlib.Core.Bool.{Bool, true, false, cond}
use mathlib.Core.List.{List, []}
use lib.Dec.{eqb}
use lib.ListN.{length}
use lib.Ieee.{Float}
use Rattle.numbers.specs.Slice.{all_finite}
use Rattle.refusal.specs.declared.Refusal.{Refusal}
use Rattle.refusal.specs.declared.Refusal.TheVariants.{Shape, NonFinite}
use Rattle.refusal.proofs.Verdicts.{never-good, both-good}
use Rattle.lists.proofs.Filling.{length-build}
use Rattle.choi.specs.Choi.{choi_of, choi_tested, normalized_choi, choi_numbers}

-- good numbers are finite
pub good-finite : (wanted : ℕ) (xs : List Float) → good ≡ checked_numbers wanted xs → all_finite xs ≡ true
unfolding checked_numbers finite_or
good-finite wanted xs e = go (eqb (length xs) wanted) (all_finite xs) e
  where
    go : (b f : Bool) → good ≡ cond b (cond f good (Err NonFinite)) (Err (Shape wanted (length xs))) → f ≡ true
    go true true e = refl
    go true false e = absurd (never-good e)
    go false f e = absurd (never-good e)

module _ (n : ℕ) (values : List Float) where
  -- the test, as a call gave it
  pub checked : (p m : ℕ) (w : Verdict) → p ≡ 4 ^ n → m ≡ p * p → w ≡ checked_numbers m values → w ≡ checked_numbers (4 ^ n * 4 ^ n) values
  checked p m w e f g = g ∙ ap (λ (k : ℕ). checked_numbers k values) (f ∙ ap₂ ◌*◌ e e)

  pub values-refused : (w : Verdict) (r : Refusal) → w ≡ checked_numbers (4 ^ n * 4 ^ n) values → w ≡ Err r → (Err r ≡ normalized_choi n values) × ([] ≡ choi_numbers n values)
  unfolding normalized_choi choi_numbers
  values-refused w r e f = (ap (λ (x : Verdict). first_of x (choi_tested n values)) (sym f ∙ e), ap (λ (x : Verdict). after x (λ _. []) (choi_of n values)) (sym f ∙ e))

  pub values-good : (w : Verdict) → w ≡ checked_numbers (4 ^ n * 4 ^ n) values → w ≡ good → (choi_tested n values ≡ normalized_choi n values) × (choi_of n values ≡ choi_numbers n values)
  unfolding normalized_choi choi_numbers
  values-good w e f = (ap (λ (x : Verdict). first_of x (choi_tested n values)) (sym f ∙ e), ap (λ (x : Verdict). after x (λ _. []) (choi_of n values)) (sym f ∙ e))

  -- a good matrix was computed
  pub good-choi : good ≡ normalized_choi n values → choi_of n values ≡ choi_numbers n values
  unfolding normalized_choi
  good-choi e = (values-good good (both-good _ (choi_tested n values) e).0 refl).1

  pub length-choi : length (choi_of n values) ≡ 2 * (4 ^ n * 4 ^ n)
  unfolding choi_of
  length-choi = length-build _ _
