-- Zeros that a step leaves zeros, up to their sign and to a NaN. Assumes nothing.
use mathlib.Core.Path.{◌≡◌, refl, sym, ◌∙◌, ap, subst}
use mathlib.Core.Bool.{Bool, true, false, cond}
use Prim.Native.Nat.{ℕ, ◌*◌, ◌<◌}
use native.Mathlib.Nat.{zero-mul, mul-zero, mul-pos, zero-lt-suc}
use lib.IntN.{ℤ, pos}
use lib.Dec.{eqb}
use borrow.Author.Tests.{eqb-false}
use native.Mathlib.Omega.{arith}
use lib.Ieee.{Float, nan, inf, fin, binary64, up, down, unlike, round, neg, add, sub, mul, div, sum, size, units, span, climb, odd, of_bits, of_fields}
use lib.Count.{count_trailing_zeros}
use lib.Ieee.Fits.{up_pos, down_pos}
use Rattle.numbers.specs.Number.{one_f, ◌+ᶠ◌, ◌-ᶠ◌, ◌*ᶠ◌, ◌/ᶠ◌}
use Rattle.rounding.proofs.Zeros.{round-zero}
use Rattle.inversion.specs.Kept.{Vacant}

-- a zero of either sign, or a NaN
abbrev pub Empty : Float → Type 0
Empty nan = Unit {0}
Empty (inf s) = ⊥
Empty (fin s m e) = (m ≡ 0) × (e ≡ pos 0)

-- zero, rounded
nothing-rounded : (s : Bool) (a c : ℕ) → a ≡ 0 → 0 < c → Empty (round binary64 s a c)
nothing-rounded s a c z p = subst Empty (sym (ap (λ (a : ℕ). round binary64 s a c) z ∙ round-zero binary64 s c p)) (refl, refl)

-- what holds of a NaN and of +0, or of both zeros
vacant-is : (P : Float → Type 0) → P nan → P (fin false 0 (pos 0)) → (y : Float) → Vacant y → P y
vacant-is P a b nan v = a
vacant-is P a b (inf s) v = absurd v
vacant-is P a b (fin s m e) v =
    subst (λ (s : Bool). P (fin s m e)) (sym v.0) (subst (λ (m : ℕ). P (fin false m e)) (sym v.1) (subst (λ (e : ℤ). P (fin false 0 e)) (sym v.2) b))

empty-is : (P : Float → Type 0) → P nan → ((s : Bool) → P (fin s 0 (pos 0))) → (y : Float) → Empty y → P y
empty-is P a b nan v = a
empty-is P a b (inf s) v = absurd v
empty-is P a b (fin s m e) v = subst (λ (m : ℕ). P (fin s m e)) (sym v.0) (subst (λ (e : ℤ). P (fin s 0 e)) (sym v.1) (b s))

zero-divided : (d : Float) → Empty (fin false 0 (pos 0) /ᶠ d)
unfolding div
zero-divided nan = tt
zero-divided (inf t) = (refl, refl)
zero-divided (fin t m e) = go (eqb m 0) refl
  where
    go : (b : Bool) → eqb m 0 ≡ b → Empty (cond b nan (round binary64 (unlike false t) (0 * up (pos 0) * down e) (m * up e * 1)))
    go true h = tt
    go false h =
        let n = eqb-false m 0 h in
        nothing-rounded (unlike false t) (0 * up (pos 0) * down e) (m * up e * 1) (zero-mul (down e)) (mul-pos (mul-pos (omega arith) (up_pos e)) (zero-lt-suc 0))

nan-divided : (d : Float) → Empty (nan /ᶠ d)
unfolding div
nan-divided d = tt

divided : (y d : Float) → Vacant y → Empty (y /ᶠ d)
divided y d v = vacant-is (λ (y : Float). Empty (y /ᶠ d)) (nan-divided d) (zero-divided d) y v

times-nan : (f : Float) → Empty (f *ᶠ nan)
unfolding mul
times-nan nan = tt
times-nan (inf s) = tt
times-nan (fin s m e) = tt

times_zero : (f : Float) (s : Bool) → Empty (f *ᶠ fin s 0 (pos 0))
unfolding mul
times_zero nan s = tt
times_zero (inf t) s = tt
times_zero (fin t m e) s = nothing-rounded (unlike t s) (m * up e * (0 * up (pos 0))) (down e * 1) (mul-zero (m * up e)) (mul-pos (down_pos e) (zero-lt-suc 0))

product : (f y : Float) → Empty y → Empty (f *ᶠ y)
product f y v = empty-is (λ (y : Float). Empty (f *ᶠ y)) (times-nan f) (times_zero f) y v

-- what is taken from a row's zero, and what is left of it
pub taken : (f y d : Float) → Vacant y → Empty (f *ᶠ (y /ᶠ d))
taken f y d v = product f (y /ᶠ d) (divided y d v)

module _ (y : Float) where
  pub less-vacant : (x : Float) → Vacant x → Empty y → Vacant (x -ᶠ y)
  unfolding sub add neg sum round size units span climb odd
  less-vacant x v e = vacant-is (λ (x : Float). Vacant (x -ᶠ y)) tt (empty-is (λ (y : Float). Vacant (fin false 0 (pos 0) -ᶠ y)) tt signs y e) x v
    where
      signs : (s : Bool) → Vacant (fin false 0 (pos 0) -ᶠ fin s 0 (pos 0))
      signs true = (refl, refl, refl)
      signs false = (refl, refl, refl)

  -- one is added before or after it
  pub one_less : (x : Float) → Vacant x → Empty y → (x +ᶠ one_f) -ᶠ y ≡ (x -ᶠ y) +ᶠ one_f
  unfolding sub add neg sum round size units span climb odd of_bits of_fields count_trailing_zeros
  one_less x v e = vacant-is (λ (x : Float). (x +ᶠ one_f) -ᶠ y ≡ (x -ᶠ y) +ᶠ one_f) refl (empty-is (λ (y : Float). (fin false 0 (pos 0) +ᶠ one_f) -ᶠ y ≡ (fin false 0 (pos 0) -ᶠ y) +ᶠ one_f) refl signs y e) x v
    where
      signs : (s : Bool) → (fin false 0 (pos 0) +ᶠ one_f) -ᶠ fin s 0 (pos 0) ≡ (fin false 0 (pos 0) -ᶠ fin s 0 (pos 0)) +ᶠ one_f
      signs true = refl
      signs false = refl
