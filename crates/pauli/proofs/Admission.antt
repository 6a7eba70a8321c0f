-- The tests before the sum, taken apart in their order. Assumes nothing.
use Rattle.std.proofs.Common.{Err, Ok}
use Rattle.refusal.specs.Verdicts.{good, Verdict, after, finite_or}
use Rattle.refusal.proofs.Verdicts.{finite-held, finite-refused}
use mathlib.Core.Path.{◌≡◌, refl, ap}
use mathlib.Core.Bool.{Bool, true, false, cond, not}
use mathlib.Core.List.{List, []}
use Prim.Native.Nat.{ℕ, ◌<◌, ◌≤◌, ◌^◌}
use native.Mathlib.Omega.{arith}
use lib.Dec.{lit<}
use lib.Ieee.{Float, lt}
use Rattle.lists.proofs.Choices.{yes, no}
use Rattle.numbers.specs.Number.{one_f, ◌-ᶠ◌, abs, positive}
use Rattle.numbers.specs.Slice.{at, all_finite}
use Rattle.refusal.specs.declared.Refusal.{Refusal}
use Rattle.refusal.specs.declared.Refusal.TheVariants.{NonFinite, InvalidNormalization, InvalidTolerance}
use Rattle.pauli.specs.Density.{density_of, vet_of, admitted, tested_of, inverted_of, computed_of}
use Rattle.pauli.proofs.Entries.{below-four}

-- ---- a vector

module _ (t : Float) (es : List Float) where
  pub not_finite : (r : Refusal) → Err r ≡ finite_or NonFinite es → Err r ≡ vet_of t es
  unfolding vet_of
  not_finite r e = let f = finite-refused NonFinite r es e in rw f.0 (yes _ (ap not f.1))

  module _ (f : good ≡ finite_or NonFinite es) where
    pub not_normalized : lt t (abs (at es 0 -ᶠ one_f)) ≡ true → Err (InvalidNormalization (at es 0)) ≡ vet_of t es
    unfolding vet_of
    not_normalized h = no _ (ap not (finite-held NonFinite es f)) (yes _ h)

    pub normalized : lt t (abs (at es 0 -ᶠ one_f)) ≡ false → good ≡ vet_of t es
    unfolding vet_of
    normalized h = no _ (ap not (finite-held NonFinite es f)) (no _ h refl)

  -- a good vector is finite
  pub good-finite : good ≡ vet_of t es → all_finite es ≡ true
  unfolding vet_of
  good-finite = go (all_finite es) (lt t (abs (at es 0 -ᶠ one_f)))
    where
      never : {r : Refusal} → good ≡ Err r → ⊥
      never e = let z : ◌≡◌ {A = ℕ} 0 1 = cc in omega arith

      go : (a b : Bool) → good ≡ cond (not a) (Err NonFinite) (cond b (Err (InvalidNormalization (at es 0))) good) → a ≡ true
      go true b e = refl
      go false b e = absurd (never e)

-- ---- admission

-- there is an identity
pub some : (n : ℕ) → n ≤ 3 → 0 < 4 ^ n
some n h = below-four (λ n. 0 < 4 ^ n) (lit< tt) (lit< tt) (lit< tt) (lit< tt) n (omega arith)

-- what a call computes where it answers a density
pub computed-density : (n : ℕ) (t : Float) (es : List Float) → inverted_of n t es ≡ good → computed_of n t es ≡ density_of n es
unfolding admitted
computed-density n t es = go (not (positive t)) (vet_of t es)
  where
    never : {r : Refusal} → Err r ≡ good → ⊥
    never e = let z : ◌≡◌ {A = ℕ} 0 1 = cc in omega arith

    go : (a : Bool) (v : Verdict) → cond a (Err InvalidTolerance) (after v Err (tested_of n es)) ≡ good → cond a [] (after v (λ _. []) (density_of n es)) ≡ density_of n es
    go true v e = absurd (never e)
    go false (Err r) e = absurd (never e)
    go false (Ok _) e = refl
