-- Complex numbers of which one part, or none, is not zero; their products, added to a sum. Assumes nothing.
use mathlib.Core.Path.{◌≡◌, ◌∙◌, ap, ap₂}
use mathlib.Core.Bool.{true, cond}
use Prim.Native.Nat.{ℕ, zero, suc, ◌+◌, ◌-◌, ◌%◌, ◌<◌}
use native.Mathlib.Omega.{arith}
use lib.Dec.{eqb}
use lib.Ieee.{Float, binary64, neg, sub}
use lib.Ieee.Fits.{mul-fits, neg-fits}
use Rattle.numbers.specs.Number.{finite, ◌+ᶠ◌, ◌*ᶠ◌}
use Rattle.complex.specs.declared.Complex.{Complex}
use Rattle.complex.specs.Arithmetic.{times}
use Rattle.choi.specs.Choi.{part_at}
use Rattle.choi.proofs.Noughts.{Nought, Steady, nought-finite, nought-times, times-nought, nought-plus, nought-minus, nought-neg, nought-last, nought-first}

-- part k is v, and the other is zero
pub record Only (z : Complex) (k : ℕ) (v : Float) : Type 0 where
  pub here : part_at k z ≡ v
  pub other : Nought (part_at (1 - k) z)

-- both parts are zero; both are finite
pub record Empty (z : Complex) : Type 0 where
  pub re : Nought z.re
  pub im : Nought z.im

pub record Sound (z : Complex) : Type 0 where
  pub re : finite z.re ≡ true
  pub im : finite z.im ≡ true

pub only-sound : (z : Complex) (k : ℕ) (v : Float) → k < 2 → finite v ≡ true → Only z k v → Sound z
only-sound z zero v h f o = record { re = ap finite o.here ∙ f; im = nought-finite z.im o.other }
only-sound z (suc zero) v h f o = record { re = nought-finite z.re o.other; im = ap finite o.here ∙ f }
only-sound z (suc (suc k)) v h f o = absurd (omega arith)

pub empty-sound : (z : Complex) → Empty z → Sound z
empty-sound z o = record { re = nought-finite z.re o.re; im = nought-finite z.im o.im }

module _ (x y : Complex) where
  -- a zero factor
  pub empty-times : Empty x → Sound y → (q : ℕ) → Nought (part_at q (times x y))
  unfolding times
  empty-times o f zero = nought-minus (x.re *ᶠ y.re) (x.im *ᶠ y.im) (nought-times x.re y.re o.re f.re) (nought-times x.im y.im o.im f.im)
  empty-times o f (suc q) = nought-plus (x.re *ᶠ y.im) (x.im *ᶠ y.re) (nought-times x.re y.im o.re f.im) (nought-times x.im y.re o.im f.re)

  pub times-empty : Sound x → Empty y → (q : ℕ) → Nought (part_at q (times x y))
  unfolding times
  times-empty f o zero = nought-minus (x.re *ᶠ y.re) (x.im *ᶠ y.im) (times-nought x.re y.re f.re o.re) (times-nought x.im y.im f.im o.im)
  times-empty f o (suc q) = nought-plus (x.re *ᶠ y.im) (x.im *ᶠ y.re) (times-nought x.re y.im f.re o.im) (times-nought x.im y.re f.im o.re)

  module _ (v u : Float) (fx : Sound x) (fy : Sound y) where
    -- two factors with one part each
    pub only-other : (k l : ℕ) → k < 2 → l < 2 → Only x k v → Only y l u → Nought (part_at (1 - (k + l) % 2) (times x y))
    unfolding times
    only-other zero zero a b o p = nought-plus (x.re *ᶠ y.im) (x.im *ᶠ y.re) (times-nought x.re y.im fx.re p.other) (nought-times x.im y.re o.other fy.re)
    only-other zero (suc zero) a b o p = nought-minus (x.re *ᶠ y.re) (x.im *ᶠ y.im) (times-nought x.re y.re fx.re p.other) (nought-times x.im y.im o.other fy.im)
    only-other zero (suc (suc l)) a b o p = absurd (omega arith)
    only-other (suc zero) zero a b o p = nought-minus (x.re *ᶠ y.re) (x.im *ᶠ y.im) (nought-times x.re y.re o.other fy.re) (times-nought x.im y.im fx.im p.other)
    only-other (suc zero) (suc zero) a b o p = nought-plus (x.re *ᶠ y.im) (x.im *ᶠ y.re) (nought-times x.re y.im o.other fy.im) (times-nought x.im y.re fx.im p.other)
    only-other (suc zero) (suc (suc l)) a b o p = absurd (omega arith)
    only-other (suc (suc k)) l a b o p = absurd (omega arith)

    -- i times i is -1
    pub only-there : (s : Float) → Steady s → (k l : ℕ) → k < 2 → l < 2 → Only x k v → Only y l u → s +ᶠ part_at ((k + l) % 2) (times x y) ≡ s +ᶠ cond (eqb (k + l) 2) (neg (v *ᶠ u)) (v *ᶠ u)
    unfolding times sub
    only-there s h zero zero a b o p =
        nought-last s (neg (x.im *ᶠ y.im)) h (nought-neg (x.im *ᶠ y.im) (nought-times x.im y.im o.other fy.im)) (x.re *ᶠ y.re) (mul-fits binary64 x.re y.re)
        ∙ ap₂ (λ (v u : Float). s +ᶠ v *ᶠ u) o.here p.here
    only-there s h zero (suc zero) a b o p =
        nought-last s (x.im *ᶠ y.re) h (nought-times x.im y.re o.other fy.re) (x.re *ᶠ y.im) (mul-fits binary64 x.re y.im)
        ∙ ap₂ (λ (v u : Float). s +ᶠ v *ᶠ u) o.here p.here
    only-there s h zero (suc (suc l)) a b o p = absurd (omega arith)
    only-there s h (suc zero) zero a b o p =
        nought-first s (x.re *ᶠ y.im) h (nought-times x.re y.im o.other fy.im) (x.im *ᶠ y.re) (mul-fits binary64 x.im y.re)
        ∙ ap₂ (λ (v u : Float). s +ᶠ v *ᶠ u) o.here p.here
    only-there s h (suc zero) (suc zero) a b o p =
        nought-first s (x.re *ᶠ y.re) h (nought-times x.re y.re o.other fy.re) (neg (x.im *ᶠ y.im)) (neg-fits binary64 (x.im *ᶠ y.im) (mul-fits binary64 x.im y.im))
        ∙ ap₂ (λ (v u : Float). s +ᶠ neg (v *ᶠ u)) o.here p.here
    only-there s h (suc zero) (suc (suc l)) a b o p = absurd (omega arith)
    only-there s h (suc (suc k)) l a b o p = absurd (omega arith)
