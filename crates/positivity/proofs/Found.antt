-- What a call found, told by the definitions. Assumes nothing.
use Rattle.std.proofs.Common.{Err, Ok}
use Rattle.refusal.specs.Verdicts.{good, Verdict, first_of, checked_numbers, tolerance_of}
use Prim.Native.Nat.{ℕ, ◌*◌, ◌^◌, ◌≤◌, ◌<◌}
use mathlib.Core.Path.{◌≡◌, refl, sym, ap, ap₂, ◌∙◌}
use mathlib.Core.Bool.{Bool, true, false}
use mathlib.Core.List.{List}
use native.Mathlib.Omega.{arith}
use lib.ListN.{length, take}
use lib.Ieee.{Float, neg}
use Rattle.refusal.specs.declared.Refusal.{Refusal}
use Rattle.refusal.specs.declared.Refusal.TheVariants.{EigensolverDidNotConverge}
use Rattle.entries.specs.Entries.{entries}
use Rattle.eigen.specs.Jacobi.{Values, eig_of, values_of, told_values}
use Rattle.choi.specs.Choi.{choi_of, choi_tested, normalized_choi, choi_numbers}
use Rattle.choi.proofs.Values.{good-choi, length-choi}
use Rattle.lists.specs.Build.{over}
use Rattle.lists.proofs.Parts.{front-again, front_fits, front_length}
use Rattle.sizes.proofs.Small.{four-some, four-most}
use Rattle.positivity.specs.Positivity.{Positivity, none_below, known, choi_values, positivity_verdict, completely_positive, told, judged}

-- ---- eigenvalues, as a call gave them

module _ (t : Float) (w : List Float) (v : Values) where
  pub values-known : (b : Bool) (found : Bool) → told_values b w ≡ v → b ≡ true → found ≡ none_below (neg t) w → Ok found ≡ judged t v
  unfolding told_values
  values-known b found e f g = ap Ok g ∙ ap (λ (x : Bool). judged t (told_values x w)) (sym f) ∙ ap (judged t) e

  pub values-unknown : (b : Bool) → told_values b w ≡ v → b ≡ false → Err EigensolverDidNotConverge ≡ judged t v
  unfolding told_values
  values-unknown b e f = ap (λ (x : Bool). judged t (told_values x w)) (sym f) ∙ ap (judged t) e

-- ---- the Choi matrix, as a call gave it

pub rows_in : (n p : ℕ) → n ≤ 2 → p ≡ 4 ^ n → (0 < p) × (p ≤ 16)
rows_in n p h e = (omega (arith, four-some n, e), omega (arith, four-most n h, e))

module _ (n : ℕ) (transfer : List Float) (w : Verdict) (e : w ≡ normalized_choi n transfer) where
  -- a good one stands at the front of its room
  module _ (f : w ≡ good) (room matrix : List Float) (o : matrix ≡ over (choi_numbers n transfer) room) (p m : ℕ) (k : p ≡ 4 ^ n) (g : m ≡ p * p) where
    computed : choi_of n transfer ≡ choi_numbers n transfer
    computed = good-choi n transfer (sym f ∙ e)

    length-computed : length (choi_numbers n transfer) ≡ 2 * m
    length-computed = ap length (sym computed) ∙ length-choi n transfer ∙ ap (λ (x : ℕ). 2 * x) (sym (g ∙ ap₂ ◌*◌ k k))

    pub choi-fits : 2 * m ≤ length matrix
    choi-fits = front_fits (choi_numbers n transfer) _ o length-computed

    pub choi-length : length (take (2 * m) matrix) ≡ 2 * m
    choi-length = front_length (choi_numbers n transfer) _ o length-computed

    pub choi-front : take (2 * m) matrix ≡ choi_of n transfer
    choi-front = front-again (choi_numbers n transfer) _ o length-computed ∙ sym computed

  module _ (t : Float) (rotations : ℕ) where
    pub choi-refused : (r : Refusal) → w ≡ Err r
        → Err r ≡ told (first_of (normalized_choi n transfer) (known (choi_values n t rotations transfer))) (completely_positive n t rotations transfer)
    choi-refused r f = ap (λ (x : Verdict). told (first_of x (known (choi_values n t rotations transfer))) (completely_positive n t rotations transfer)) (sym f ∙ e)

    pub choi-good : (p : ℕ) (matrix : List Float) (found : Positivity) → w ≡ good → p ≡ 4 ^ n → matrix ≡ choi_of n transfer → found ≡ judged t (values_of (eig_of p t rotations (entries matrix)))
        → found ≡ told (first_of (normalized_choi n transfer) (known (choi_values n t rotations transfer))) (completely_positive n t rotations transfer)
    unfolding choi_values completely_positive
    choi-good p matrix found f k m g =
        g
        ∙ ap₂ (λ (q : ℕ) (x : List Float). judged t (values_of (eig_of q t rotations (entries x)))) k m
        ∙ ap (λ (x : Verdict). told (first_of x (known (choi_values n t rotations transfer))) (completely_positive n t rotations transfer)) (sym f ∙ e)

-- ---- the tests before it

module _ (n : ℕ) (t : Float) (rotations : ℕ) (transfer : List Float) (w : Verdict) (e : w ≡ first_of (checked_numbers (4 ^ n * 4 ^ n) transfer) (tolerance_of t)) where
  -- the values of the Choi matrix are tested once more, and are good by then
  split : (x c k v : Verdict) → first_of (first_of x v) (first_of (first_of x c) k) ≡ first_of x (first_of v (first_of c k))
  split (Ok _) c k v = refl
  split (Err r) c k v = refl

  by_tests : told (first_of w (first_of (normalized_choi n transfer) (known (choi_values n t rotations transfer)))) (completely_positive n t rotations transfer)
      ≡ told (positivity_verdict n t rotations transfer) (completely_positive n t rotations transfer)
  unfolding positivity_verdict normalized_choi
  by_tests =
      ap (λ (x : Verdict). told x (completely_positive n t rotations transfer))
      (ap (λ (x : Verdict). first_of x (first_of (normalized_choi n transfer) (known (choi_values n t rotations transfer)))) e
      ∙ split (checked_numbers (4 ^ n * 4 ^ n) transfer) (choi_tested n transfer) (known (choi_values n t rotations transfer)) (tolerance_of t))

  by-found : (v : Verdict) → w ≡ v → told (first_of v (first_of (normalized_choi n transfer) (known (choi_values n t rotations transfer)))) (completely_positive n t rotations transfer)
      ≡ told (positivity_verdict n t rotations transfer) (completely_positive n t rotations transfer)
  by-found v f = ap (λ (x : Verdict). told (first_of x (first_of (normalized_choi n transfer) (known (choi_values n t rotations transfer)))) (completely_positive n t rotations transfer)) (sym f) ∙ by_tests

  pub tests_refused : (r : Refusal) → w ≡ Err r → Err r ≡ told (positivity_verdict n t rotations transfer) (completely_positive n t rotations transfer)
  tests_refused r f = by-found (Err r) f

  pub tests_good : w ≡ good → told (first_of (normalized_choi n transfer) (known (choi_values n t rotations transfer))) (completely_positive n t rotations transfer)
      ≡ told (positivity_verdict n t rotations transfer) (completely_positive n t rotations transfer)
  tests_good f = by-found good f
