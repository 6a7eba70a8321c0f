-- A number by its units: each finite one is a whole number of them, of at most 53 digits and zeros after these. Assumes nothing.
use mathlib.Core.Path.{◌≡◌, refl, sym, ap, ◌∙◌, subst}
use mathlib.Core.Bool.{Bool, true, false, ◌&&◌}
use Prim.Native.Nat.{ℕ, zero, suc, ◌+◌, ◌-◌, ◌*◌, ◌/◌, ◌%◌, ◌^◌, ◌≤◌, ◌<◌}
use native.Mathlib.Nat.{zero-mul, mul-one, one-mul, mul_assoc, mul_right_comm, mul-div_cancel, lt_of_lt_of_le, lt_of_le_of_lt, le_of_eq, mul-lt-mul_of_pos_right, lt_of_mul-lt-mul_right, not-le_of_lt, zero-div, mul-pos}
use native.Mathlib.Omega.{arith}
use lib.IntN.{ℤ, pos, negsuc}
use lib.Dec.{T, ltb, leb, eqb, ltb→lt, leb→le, lit<}
use lib.Pow.{pow-add, pow_pos, pow-lt, pow_mono}
use lib.Ieee.{Float, nan, inf, fin, binary64, up, down, fits, lt, eq}
use lib.Ieee.Fits.{down_pos, and_l, and_r}
use lib.Ieee.Exact.{HasValue}
use lib.Ieee.Positive.{first_pos}
use borrow.Author.Tests.{ltb-true}
use Rattle.numbers.specs.Number.{finite, negative}
use Rattle.numbers.proofs.Leaves.{clash, nought}
use Rattle.rounding.specs.Units.{units_in_one, units_of}

-- a number that is a units has that size
pub units-of-value : (x : Float) (s : Bool) (a : ℕ) → HasValue x s a units_in_one → units_of x ≡ a
unfolding units_of
units-of-value nan s a h = absurd h
units-of-value (inf t) s a h = absurd h
units-of-value (fin t m e) s a h = ap (λ (k : ℕ). k / down e) h.1 ∙ mul-div_cancel a (down_pos e)

-- the order of powers of two is that of their exponents
pub pow-le : (a b : ℕ) → 2 ^ a ≤ 2 ^ b → a ≤ b
pow-le a b p = let k : ¬ (b < a) = λ h. not-le_of_lt (pow-lt h) p in omega arith

pub pow-less : (a b : ℕ) → 2 ^ a < 2 ^ b → a < b
pow-less a b p = let k : ¬ (b ≤ a) = λ h. not-le_of_lt p (pow_mono h) in omega arith

-- 2 ^ e is a whole number of units, where it is one at least
zeros_of : (e : ℤ) → down e ≤ units_in_one → (k : ℕ) × (up e * units_in_one ≡ 2 ^ k * down e)
zeros_of (pos k) h = (k + 1074, sym (pow-add 2 k 1074) ∙ sym (mul-one (2 ^ (k + 1074))))
zeros_of (negsuc k) h =
    let l : suc k ≤ 1074 = pow-le (suc k) 1074 h in
    (1074 - suc k, one-mul units_in_one ∙ ap (λ (z : ℕ). 2 ^ z) (split 1074 (suc k) l) ∙ pow-add 2 (1074 - suc k) (suc k))
  where
    split : (a b : ℕ) → b ≤ a → a ≡ a - b + b
    split a b h = omega arith

-- what is known of a finite number's units
pub record Counted (x : Float) : Type 0 where
  pub digits : ℕ
  pub zeros : ℕ
  pub few : digits < 2 ^ 53
  pub is : units_of x ≡ digits * 2 ^ zeros
  pub value : HasValue x (negative x) (units_of x) units_in_one
  pub below : units_of x < 2 ^ 2098

-- from the three bounds that an `f64` keeps
of-bounds : (s : Bool) (m : ℕ) (e : ℤ) → m < 2 ^ 53 → down e ≤ units_in_one → m * up e < 2 ^ 1024 * down e → Counted (fin s m e)
unfolding units_of negative
of-bounds s m e few low high = record {
  digits = m;
  zeros = k;
  few = few;
  is = is;
  value = (refl, exact ∙ ap (λ (z : ℕ). z * down e) (sym is));
  below = lt_of_mul-lt-mul_right (down e) (lt_of_le_of_lt (le_of_eq (ap (λ (z : ℕ). z * down e) is ∙ sym exact)) (lt_of_lt_of_le (mul-lt-mul_of_pos_right high (pow_pos 1074)) (le_of_eq (mul_right_comm (2 ^ 1024) (down e) units_in_one))));
}
  where
    k : ℕ
    k = (zeros_of e low).0

    exact : m * up e * units_in_one ≡ m * 2 ^ k * down e
    exact = mul_assoc m (up e) units_in_one ∙ ap (λ (z : ℕ). m * z) (zeros_of e low).1 ∙ sym (mul_assoc m (2 ^ k) (down e))

    is : m * up e * units_in_one / down e ≡ m * 2 ^ k
    is = ap (λ (z : ℕ). z / down e) exact ∙ mul-div_cancel (m * 2 ^ k) (down_pos e)

pub counted : (x : Float) → T (fits binary64 x) → finite x ≡ true → Counted x
unfolding fits finite units_of negative
counted nan f h = clash h
counted (inf s) f h = clash h
counted (fin s zero e) f h =
    let z : 0 * up e * units_in_one / down e ≡ 0 = ap (λ (k : ℕ). k * units_in_one / down e) (zero-mul (up e)) ∙ ap (λ (k : ℕ). k / down e) (zero-mul units_in_one) ∙ zero-div (down e) in
    record {
      digits = 0;
      zeros = 0;
      few = lit< tt;
      is = z;
      value = (refl, ap (λ (k : ℕ). k * units_in_one) (zero-mul (up e)) ∙ zero-mul units_in_one ∙ sym (ap (λ (k : ℕ). k * down e) z ∙ zero-mul (down e)));
      below = lt_of_le_of_lt (le_of_eq z) (lit< tt);
    }
counted (fin s (suc m) e) f h =
    let a = eqb (suc m % 2) 1 in
    let b = ltb (suc m) (2 ^ 53) in
    let c = leb (down e) units_in_one in
    let d = ltb (suc m * up e) (2 ^ 1024 * down e) in
    let abc : T (a && b && c) = and_l (a && b && c) d f in
    of-bounds s (suc m) e (ltb→lt (suc m) (2 ^ 53) (and_r a b (and_l (a && b) c abc))) (leb→le (down e) units_in_one (and_r (a && b) c abc)) (ltb→lt (suc m * up e) (2 ^ 1024 * down e) (and_r (a && b && c) d f))

-- what is above zero and no infinity is finite
pub finite-above : (x : Float) → lt nought x ≡ true → eq x (inf false) ≡ false → finite x ≡ true
unfolding lt eq finite
finite-above nan l g = clash l
finite-above (inf true) l g = clash l
finite-above (inf false) l g = clash (sym g)
finite-above (fin s m e) l g = refl

-- a finite number above zero has the sign clear and some units
pub above_zero : (x : Float) → T (fits binary64 x) → finite x ≡ true → lt nought x ≡ true → (negative x ≡ false) × (0 < units_of x)
unfolding lt finite negative
above_zero nan f h l = clash h
above_zero (inf s) f h l = clash h
above_zero (fin true m e) f h l = clash l
above_zero (fin false m e) f h l =
    let c = counted (fin false m e) f refl in
    let p : 0 < m * up e = subst (λ (k : ℕ). 0 < k) (mul-one (m * up e)) (subst (λ (k : ℕ). k < m * up e * 1) (zero-mul (down e)) (ltb-true (0 * down e) (m * up e * 1) l)) in
    (refl, first_pos (units_of (fin false m e)) (down e) (subst (λ (k : ℕ). 0 < k) c.value.1 (mul-pos p (pow_pos 1074))))
