-- The tests of a process, taken apart in their order. Assumes nothing.
use Rattle.std.proofs.Common.{Err, Ok}
use Rattle.refusal.specs.Verdicts.{good, Verdict, after, finite_or}
use Prim.Native.Nat.{ℕ, ◌*◌}
use mathlib.Core.Path.{◌≡◌, refl, sym, ap, ◌∙◌}
use mathlib.Core.Bool.{Bool, true, false, cond, not}
use mathlib.Core.List.{List, [], ◌++◌}
use lib.ListN.{length, drop}
use lib.Ieee.{Float}
use Rattle.lists.specs.Build.{over}
use Rattle.lists.proofs.Choices.{yes, no}
use Rattle.lists.proofs.Filling.{length-build}
use Rattle.numbers.specs.Number.{positive}
use Rattle.refusal.specs.declared.Refusal.{Refusal}
use Rattle.refusal.specs.declared.Refusal.TheVariants.{NonFinite, InvalidTolerance, SingularProcessDesign}
use Rattle.refusal.proofs.Verdicts.{never-good}
use Rattle.matrix.specs.Product.{mat_mul_of}
use Rattle.inversion.specs.Inversion.{invertible, inverse_of}
use Rattle.transfer.specs.Vectors.{vetted_of}
use Rattle.transfer.specs.Process.{inputs_of, outputs_of, transfer_of, solved_of, solved_numbers, screened, process_of, process_numbers}

module _ (t : Float) (v : List Float) (p : ℕ) where
  pub length-transfer : length (transfer_of t v p) ≡ p * p
  unfolding transfer_of mat_mul_of
  length-transfer = length-build (p * p) _

  module _ (h : invertible p t (inputs_of v p) ≡ false) where
    pub singular : Err SingularProcessDesign ≡ solved_of t v p
    unfolding solved_of
    singular = yes _ (ap not h)

    pub singular-numbers : [] ≡ solved_numbers t v p
    unfolding solved_numbers
    singular-numbers = yes _ (ap not h)

  module _ (h : invertible p t (inputs_of v p) ≡ true) where
    -- y is what the product left in the front of l, b the inverse
    pub product_is : (b y l : List Float) → b ≡ inverse_of p t (inputs_of v p) → y ≡ mat_mul_of p (outputs_of v p) b ++ drop (p * p) l → y ≡ transfer_of t v p ++ drop (p * p) l
    unfolding transfer_of
    product_is b y l e g = g ∙ ap (λ (b : List Float). mat_mul_of p (outputs_of v p) b ++ drop (p * p) l) e

    pub numbers-over : (y l : List Float) → y ≡ transfer_of t v p ++ drop (p * p) l → y ≡ over (solved_numbers t v p) l
    unfolding solved_numbers
    numbers-over y l g = g ∙ rw (h) (rw (length-transfer))

    pub solved : (front : List Float) (w : Verdict) → front ≡ transfer_of t v p → w ≡ finite_or NonFinite front → w ≡ solved_of t v p
    unfolding solved_of
    solved front w f g = no _ (ap not h) (g ∙ ap (finite_or NonFinite) f)

-- what a call computes where it is good
pub computed-process : (t : Float) (v : List Float) (p : ℕ) → process_of t v p ≡ good → process_numbers t v p ≡ transfer_of t v p
unfolding screened solved_of solved_numbers
computed-process t v p = go (not (positive t)) (vetted_of t v p) (not (invertible p t (inputs_of v p)))
  where
    never : {r : Refusal} → Err r ≡ good → ⊥
    never e = never-good (sym e)

    go : (a : Bool) (w : Verdict) (b : Bool) → cond a (Err InvalidTolerance) (after w Err (cond b (Err SingularProcessDesign) (finite_or NonFinite (transfer_of t v p)))) ≡ good
        → cond a [] (after w (λ _. []) (cond b [] (transfer_of t v p))) ≡ transfer_of t v p
    go true w b e = absurd (never e)
    go false (Err r) b e = absurd (never e)
    go false (Ok _) true e = absurd (never e)
    go false (Ok _) false e = refl
