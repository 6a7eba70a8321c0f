-- What a good verdict says of what was tested. Assumes nothing.
use Rattle.std.proofs.Common.{◌+◌, add-one, Result, Err, Ok}
use Rattle.std.specs.Result.{IsErrAnd}
use Rattle.refusal.specs.Verdicts.{good, Verdict, first_of, after, finite_or, checked_numbers, counted_of, tolerance_of}
use Prim.Native.Nat.{ℕ, zero, suc, ◌<◌}
use mathlib.Core.Path.{◌≡◌, refl, sym, ap, subst, ◌∙◌}
use mathlib.Core.Bool.{Bool, true, false, cond, not}
use mathlib.Core.List.{List}
use mathlib.Core.Logic.{⊎_elim}
use native.Mathlib.Nat.{not-suc-le-zero, eq-or-lt_of_le, le_of_suc-le-suc}
use native.Mathlib.Omega.{arith}
use borrow.Author.Tests.{eqb-true}
use lib.Dec.{eqb}
use lib.ListN.{length}
use lib.Ieee.{Float}
use Rattle.lists.specs.Fold.{fold}
use Rattle.numbers.specs.Number.{positive}
use Rattle.numbers.specs.Slice.{all_finite}
use Rattle.refusal.specs.declared.Refusal.{Refusal}
use Rattle.refusal.specs.declared.Refusal.TheVariants.{Shape, NonFinite, InvalidTolerance}

pub never-good : {r : Refusal} → good ≡ Err r → ⊥
never-good e = let z : ◌≡◌ {A = ℕ} 0 1 = cc in omega arith

pub both-good : (a b : Verdict) → good ≡ first_of a b → (good ≡ a) × (good ≡ b)
both-good (Ok _) b e = (refl, e)
both-good (Err r) b e = absurd (never-good e)

-- a test was passed on the way to a good verdict: one that refuses where it holds, and one that refuses where it does not
pub passed : (b : Bool) (r : Refusal) (v : Verdict) → good ≡ cond b (Err r) v → (b ≡ false) × (good ≡ v)
passed true r v e = absurd (never-good e)
passed false r v e = (refl, e)

pub held : (b : Bool) (r : Refusal) → good ≡ cond b good (Err r) → b ≡ true
held true r e = refl
held false r e = absurd (never-good e)

-- what a test of numbers says of them
pub finite-held : (r : Refusal) (xs : List Float) → good ≡ finite_or r xs → all_finite xs ≡ true
unfolding finite_or
finite-held r xs e = held (all_finite xs) r e

pub finite-refused : (r x : Refusal) (xs : List Float) → Err x ≡ finite_or r xs → (x ≡ r) × (all_finite xs ≡ false)
unfolding finite_or
finite-refused r x xs e = go (all_finite xs) e
  where
    go : (b : Bool) → Err x ≡ cond b good (Err r) → (x ≡ r) × (b ≡ false)
    go true e = absurd (never-good (sym e))
    go false e = (cc, refl)

-- of tests in a row that find nothing, each finds nothing
pub each-good : (n : ℕ) (f : ℕ → Verdict) → fold n (λ i v. first_of v (f i)) good ≡ good → (i : ℕ) → i < n → f i ≡ good
unfolding fold
each-good zero f e i l = absurd (not-suc-le-zero l)
each-good (suc n) f e i l =
    let b = both-good (fold n (λ i v. first_of v (f i)) good) (f n) (sym e) in
    ⊎_elim (λ (q : i ≡ n). subst (λ (k : ℕ). f k ≡ good) (sym q) (sym b.1)) (λ (q : i < n). each-good n f (sym b.0) i q)
    (eq-or-lt_of_le (le_of_suc-le-suc l))

-- ---- two tests in a row, as calls made them

pub first-refuses : (a b : Verdict) (r : Refusal) → a ≡ Err r → Err r ≡ first_of a b
first-refuses a b r e = rw e refl

pub second-decides : (a b w : Verdict) → a ≡ good → w ≡ b → w ≡ first_of a b
second-decides a b w e f = rw e f

-- ---- a refusal, as `?` passes it on

pub passed_on : {T : Type 0} {r : Refusal} {x y : Result T Refusal} → IsErrAnd x (λ q. q ≡ r) → Err r ≡ y → x ≡ y
passed_on {x = Ok _} h e = absurd h
passed_on {x = Err _} h e = rw h e

-- ---- the tolerance, and then what a test v finds

module _ {A : Type 0} (t : Float) (v : Verdict) (refused : Refusal → A) (next : A) where
  after-tolerance : after (tolerance_of t) refused (after v refused next) ≡ cond (not (positive t)) (refused InvalidTolerance) (after v refused next)
  unfolding tolerance_of
  after-tolerance = go (positive t)
    where
      go : (b : Bool) → after (cond b good (Err InvalidTolerance)) refused (after v refused next) ≡ cond (not b) (refused InvalidTolerance) (after v refused next)
      go true = refl
      go false = refl

  pub tolerance-refused : (r : Refusal) → Err r ≡ tolerance_of t → refused r ≡ cond (not (positive t)) (refused InvalidTolerance) (after v refused next)
  tolerance-refused r e = ap (λ (x : Verdict). after x refused (after v refused next)) e ∙ after-tolerance

  pub tolerance-passed : (w : Verdict) → good ≡ tolerance_of t → w ≡ v → after w refused next ≡ cond (not (positive t)) (refused InvalidTolerance) (after v refused next)
  tolerance-passed w e f = ap (λ (x : Verdict). after x refused next) f ∙ ap (λ (x : Verdict). after x refused (after v refused next)) e ∙ after-tolerance

-- nothing else is tested
pub tolerance-last : (t : Float) → tolerance_of t ≡ cond (not (positive t)) (Err InvalidTolerance) good
unfolding tolerance_of
tolerance-last t = go (positive t)
  where
    go : (b : Bool) → cond b good (Err InvalidTolerance) ≡ cond (not b) (Err InvalidTolerance) good
    go true = refl
    go false = refl

-- ---- tests in a row, as a loop makes them that ends at the first refusal

module _ (f : ℕ → Verdict) where
  abbrev pub tested : ℕ → Verdict
  tested n = fold n (λ i v. first_of v (f i)) good

  pub tested-none : tested 0 ≡ good
  unfolding fold
  tested-none = refl

  -- one test more that finds nothing
  pub tested-more : (i : ℕ) → tested i ≡ good → f i ≡ good → tested (i + 1) ≡ good
  unfolding fold
  tested-more i e h = rw (add-one, e) h

  -- a refusal stays
  stays-refused : (n : ℕ) (r : Refusal) → tested n ≡ Err r → tested (suc n) ≡ Err r
  unfolding fold
  stays-refused n r e = rw e refl

  -- the first refusal is the outcome
  pub tested-ends : (n i : ℕ) (r : Refusal) → i < n → tested i ≡ good → f i ≡ Err r → tested n ≡ Err r
  unfolding fold
  tested-ends zero i r l e h = absurd (not-suc-le-zero l)
  tested-ends (suc n) i r l e h =
      ⊎_elim (λ (q : i ≡ n). let k : f n ≡ Err r = subst (λ (j : ℕ). f j ≡ Err r) q h in let m : tested n ≡ good = subst (λ (j : ℕ). tested j ≡ good) q e in rw m k)
      (λ (q : i < n). stays-refused n r (tested-ends n i r q e h))
      (eq-or-lt_of_le (le_of_suc-le-suc l))

  pub tested-all : (n i : ℕ) → i ≡ n → tested i ≡ good → good ≡ tested n
  tested-all n i e h = sym (subst (λ (j : ℕ). tested j ≡ good) e h)

-- ---- numbers, as many as wanted

pub counted : (wanted : ℕ) (xs : List Float) → good ≡ counted_of wanted xs → length xs ≡ wanted
unfolding counted_of
counted wanted xs e = eqb-true (length xs) wanted (held _ _ e)

-- their count is tested first
pub count-first : (wanted : ℕ) (xs : List Float) → first_of (counted_of wanted xs) (finite_or NonFinite xs) ≡ checked_numbers wanted xs
unfolding counted_of checked_numbers
count-first wanted xs = go (eqb (length xs) wanted)
  where
    go : (b : Bool) → first_of (cond b good (Err (Shape wanted (length xs)))) (finite_or NonFinite xs) ≡ cond b (finite_or NonFinite xs) (Err (Shape wanted (length xs)))
    go true = refl
    go false = refl

pub good_length : (wanted : ℕ) (xs : List Float) → good ≡ checked_numbers wanted xs → length xs ≡ wanted
good_length wanted xs e = counted wanted xs (both-good _ _ (e ∙ sym (count-first wanted xs))).0
