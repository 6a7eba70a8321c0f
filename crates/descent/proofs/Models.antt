-- Numbers put into a model and read back from it, and what an evaluation of coordinates says of the model that holds them. Assumes nothing.
use Rattle.std.proofs.Common.{Err, None, Ok, Some}
use Rattle.likelihood.specs.declared.Unfit.TheVariants.{Probabilities, Refused}
use Prim.Native.Nat.{ℕ, suc, suc-le-suc, ◌<◌}
use mathlib.Core.Path.{◌≡◌, refl, sym, ap, ap₂, subst, ◌∙◌}
use mathlib.Core.Bool.{Bool, true, false, not, cond}
use mathlib.Core.List.{List, [], ◌∷◌, map}
use native.Mathlib.Nat.{zero-lt-suc}
use native.Mathlib.Omega.{arith}
use lib.Dec.{eqb}
use lib.ListN.{length, get_or, set, length-set}
use lib.Seq.{get_or-set_same, get_or-set_other, set-get_or}
use lib.Ieee.{Float, nan}
use borrow.Author.Tests.{eqb-false, not-true}
use Rattle.lists.proofs.Choices.{yes}
use Rattle.lists.proofs.Filling.{length-build}
use Rattle.booleans.proofs.Joined.{neither, and_both}
use Rattle.numbers.specs.Slice.{at, all_finite}
use Rattle.refusal.specs.declared.Refusal.TheVariants.{NonFinite}
use Rattle.likelihood.specs.Multinomial.{Likelihood}
use Rattle.descent.specs.Fit.{Evaluated, Job, put, size, coordinates_of, model_of, diagnostics_in, scored, evaluate, trial}
use Rattle.descent.specs.Claim.{listed, distinct, Sound, evaluation}

-- ---- numbers in a model

pub put-length : (ps : List ℕ) (xs m : List Float) → length (put ps xs m) ≡ length m
unfolding put
put-length [] xs m = refl
put-length (p ∷ ps) [] m = refl
put-length (p ∷ ps) (x ∷ xs) m = put-length ps xs (set m p x) ∙ length-set m p x

-- other numbers stay
pub put_other : (ps : List ℕ) (xs m : List Float) (p : ℕ) → listed p ps ≡ false → at (put ps xs m) p ≡ at m p
unfolding put
put_other [] xs m p h = refl
put_other (q ∷ ps) [] m p h = refl
put_other (q ∷ ps) (x ∷ xs) m p h =
    let k = neither (eqb p q) (listed p ps) h in
    put_other ps xs (set m q x) p k.1 ∙ get_or-set_other m q p x nan (eqb-false p q k.0)

-- at different places the numbers are read back
pub put_back : (ps : List ℕ) (xs m : List Float) → distinct ps ≡ true → ((i : ℕ) → i < length ps → get_or ps i 0 < length m) → length xs ≡ length ps
    → map (at (put ps xs m)) ps ≡ xs
unfolding put
put_back [] [] m d i l = refl
put_back [] (x ∷ xs) m d i l = absurd (omega arith)
put_back (p ∷ ps) [] m d i l = absurd (omega arith)
put_back (p ∷ ps) (x ∷ xs) m d i l =
    let k = and_both (not (listed p ps)) (distinct ps) d in
    ap₂ {C = List Float} (λ y ys. y ∷ ys)
    (put_other ps xs (set m p x) p (not-true (listed p ps) k.0) ∙ get_or-set_same m p x nan (i 0 (zero-lt-suc (length ps))))
    (put_back ps xs (set m p x) k.1 (λ j h. rw length-set (i (suc j) (suc-le-suc h))) (omega arith))

-- a model's own numbers change nothing
pub put_same : (ps : List ℕ) (m : List Float) → put ps (map (at m) ps) m ≡ m
unfolding put
put_same [] m = refl
put_same (p ∷ ps) m = ap (put ps (map (at m) ps)) (set-get_or m p nan) ∙ put_same ps m

-- ---- evaluations

module _ (J : Job) where
  -- the card's own model
  pub own : model_of J (coordinates_of J J.model) ≡ J.model
  own = put_same J.places J.model

  -- coordinates that their model holds are evaluated as the model is
  pub same-evaluation : (xs : List Float) → coordinates_of J (model_of J xs) ≡ xs → evaluation J (model_of J xs) ≡ evaluate J xs
  unfolding evaluate evaluation
  same-evaluation xs e = rw e

  -- where the card's own numbers are finite, its model's value is that of its likelihood
  pub own-evaluation : (L : Likelihood) → all_finite (coordinates_of J J.model) ≡ true → J.likelihood J.model ≡ L → evaluation J J.model ≡ scored J L (coordinates_of J J.model)
  unfolding evaluation
  own-evaluation L f l = sym (yes _ f) ∙ ap (λ (L : Likelihood). scored J L (coordinates_of J J.model)) l

  -- what has a value has diagnostics
  abbrev Valued : Evaluated → Type 0
  Valued (Ok (Some o)) = Unit {0}
  Valued (Ok None) = ⊥
  Valued (Err r) = ⊥

  diagnosed : (b : Bool) (L : Likelihood) (xs : List Float) → Valued (cond b (scored J L xs) (Err NonFinite)) → L ≡ Ok (diagnostics_in L)
  diagnosed true (Ok d) xs v = refl
  diagnosed true (Err Probabilities) xs v = absurd v
  diagnosed true (Err (Refused r)) xs v = absurd v
  diagnosed false L xs v = absurd v

  pub value-diagnosed : (m : List Float) (o : Float) → evaluation J m ≡ Ok (Some o) → J.likelihood m ≡ Ok (diagnostics_in (J.likelihood m))
  unfolding evaluation
  value-diagnosed m o e = diagnosed (all_finite (coordinates_of J m)) (J.likelihood m) (coordinates_of J m) (subst Valued (sym e) tt)

-- a trial's numbers are read back
pub read-trial : (J : Job) → Sound J → (xs g : List Float) (k : ℕ) → coordinates_of J (model_of J (trial J xs g k)) ≡ trial J xs g k
unfolding trial
read-trial J s xs g k = put_back J.places (trial J xs g k) J.model s.different s.inside (length-build (size J) _)
