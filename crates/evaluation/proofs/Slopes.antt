-- A derivative, the loop over the derivatives, which ends at the first that is unusable, and the norm of a gradient. Assumes nothing.
use Rattle.std.proofs.Common.{Err, Ok}
use Prim.Native.Nat.{ℕ, suc, ◌+◌, ◌<◌}
use mathlib.Core.Path.{◌≡◌, refl, sym, ap, ap₂, ◌∙◌}
use mathlib.Core.List.{List, []}
use native.Mathlib.Numerals.{add-one}
use native.Mathlib.Omega.{arith}
use lib.ListN.{length, take, set}
use lib.Seq.{take-suc-set, take_all}
use lib.Ieee.{Float}
use Rattle.lists.specs.Fold.{fold}
use Rattle.lists.proofs.Folding.{fold_stays}
use Rattle.refusal.specs.declared.Refusal.{Refusal}
use Rattle.descent.specs.Fit.{Evaluated, Derivative, Job, Slopes, slopes, unusable, size, with_slope, evaluate, difference_of, displacement, derivative, norm}
use Rattle.numbers.specs.Number.{one_f, abs, max, ◌+ᶠ◌, ◌-ᶠ◌, ◌*ᶠ◌}
use Rattle.numbers.specs.Slice.{at}
use Rattle.root.specs.Root.{sqrt}
use Rattle.matrix.specs.Product.{sum_of}

-- derivative i is w i
module _ (w : ℕ → Derivative) where
  -- the first i of them
  abbrev pub slopes_to : ℕ → Slopes
  slopes_to i = fold i (λ k g. with_slope g (w k)) (slopes [])

  pub slopes-none : (g : List Float) → slopes_to 0 ≡ slopes (take 0 g)
  unfolding fold
  slopes-none g = refl

  pub slopes-more : (i : ℕ) (g : List Float) (d : Derivative) (v : Float) → slopes_to i ≡ slopes (take i g) → d ≡ w i → d ≡ Ok v → i < length g
      → slopes_to (i + 1) ≡ slopes (take (i + 1) (set g i v))
  unfolding fold
  slopes-more i g d v e p q h = rw (add-one, take-suc-set g i v h) (ap₂ with_slope e (sym p ∙ q))

  pub slopes-stop : (i n : ℕ) (g : List Float) (d : Derivative) (r : Refusal) → slopes_to i ≡ slopes (take i g) → d ≡ w i → d ≡ Err r → i < n → unusable r ≡ slopes_to n
  unfolding fold
  slopes-stop i n g d r e p q h =
      sym (fold_stays (λ k g. with_slope g (w k)) (unusable r) (λ k. refl) n (suc i) (slopes []) h (ap₂ with_slope e (sym p ∙ q)))

  pub slopes-all : (i n : ℕ) (g : List Float) → slopes_to i ≡ slopes (take i g) → i ≡ n → length g ≡ n → slopes g ≡ slopes_to n
  slopes-all i n g e p q = ap slopes (sym (take_all i g (omega arith))) ∙ sym e ∙ ap slopes_to p

-- the derivative in coordinate i from the probes' distance, the coordinates on both sides and what they give
module _ (J : Job) (xs : List Float) (o : Float) (i : ℕ) where
  pub derivative-by : (a m : Float) (ys zs : List Float) (r l : Evaluated) (d : Derivative) → a ≡ abs (at xs i) → m ≡ max a one_f
      → ys ≡ set xs i (at xs i +ᶠ J.config.finite_difference_step *ᶠ m) → zs ≡ set xs i (at xs i -ᶠ J.config.finite_difference_step *ᶠ m)
      → r ≡ evaluate J ys → l ≡ evaluate J zs → d ≡ difference_of o (J.config.finite_difference_step *ᶠ m) r l → d ≡ derivative J xs o i
  unfolding derivative displacement
  derivative-by a m ys zs r l d p q y z right left e =
      e
      ∙ ap₂ (difference_of o (J.config.finite_difference_step *ᶠ m)) (right ∙ ap (evaluate J) y) (left ∙ ap (evaluate J) z)
      ∙ ap
      (λ (m : Float).
      let h = J.config.finite_difference_step *ᶠ m in
      difference_of o h (evaluate J (set xs i (at xs i +ᶠ h))) (evaluate J (set xs i (at xs i -ᶠ h))))
      (q ∙ ap (λ (b : Float). max b one_f) p)

-- a gradient has as many numbers as there are coordinates
pub norm-by : (J : Job) (g : List Float) (z : Float) → length g ≡ size J → z ≡ sqrt (sum_of (length g) (λ i. at g i *ᶠ at g i)) → z ≡ norm J g
unfolding norm
norm-by J g z n e = e ∙ ap (λ (k : ℕ). sqrt (sum_of k (λ i. at g i *ᶠ at g i))) n
