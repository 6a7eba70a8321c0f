-- What the significand and the exponent of a finite number other than zero are: M · 2 ^ (e - 52) is the number, exactly. Assumes nothing.
use mathlib.Core.Path.{◌≡◌, refl, sym, ap, ◌∙◌}
use mathlib.Core.Bool.{true, false}
use Prim.Native.Nat.{ℕ, zero, suc, ◌+◌, ◌-◌, ◌*◌, ◌/◌, ◌^◌, ◌≤◌, ◌<◌}
use native.Mathlib.Nat.{le_trans, le_of_eq, lt_of_lt_of_le, lt_of_le_of_lt, mul_comm, mul_assoc, mul-div_cancel, mul-le-mul_right, mul-lt-mul_of_pos_right, le_of_mul-le-mul_right, div-lt_iff_lt-mul, eq_of_mul-eq-mul_right}
use native.Mathlib.Omega.{arith}
use lib.Dec.{T}
use lib.Pow.{pow-add, pow_pos, shl_lt}
use lib.Ieee.{Float, nan, inf, fin, binary64, fits, size, lt}
use lib.Ieee.Digits.{size-lt, size-le, size_reaches}
use Rattle.numbers.specs.Number.{finite}
use Rattle.numbers.proofs.Leaves.{clash, nought}
use Rattle.rounding.specs.Units.{units_of}
use Rattle.rounding.proofs.Units.{Counted, counted, above_zero}
use Rattle.significand.specs.Significand.{significand_of, exponent_of}

-- a number above zero has a digit
pub some-digit : (n : ℕ) → 0 < n → 0 < size n
some-digit n h = go (size n) (size-lt n)
  where
    go : (z : ℕ) → n < 2 ^ z → 0 < z
    go zero l = omega arith
    go (suc z) l = omega arith

-- a significand has 53 digits at most
pub significand-lt : (x : Float) → significand_of x < 2 ^ 53
unfolding significand_of
significand-lt x = let s = size (units_of x) in (div-lt_iff_lt-mul (pow_pos s)).1 (lt_of_lt_of_le (mul-lt-mul_of_pos_right (size-lt (units_of x)) (pow_pos 53)) (le_of_eq (mul_comm (2 ^ s) (2 ^ 53))))

pub record Exact (x : Float) : Type 0 where
  pub low : 2 ^ 52 ≤ significand_of x
  pub high : significand_of x < 2 ^ 53
  pub reach : exponent_of x ≤ 2097
  pub is : significand_of x * 2 ^ exponent_of x ≡ units_of x * 2 ^ 52

pub exact : (x : Float) → T (fits binary64 x) → finite x ≡ true → 0 < units_of x → Exact x
unfolding significand_of exponent_of
exact x f h p = record {
  low = le_of_mul-le-mul_right (le_trans (le_of_eq (sym (pow-add 2 52 s) ∙ ap (λ (k : ℕ). 2 ^ k) a ∙ pow-add 2 (s - 1) 53)) (le_trans (mul-le-mul_right (2 ^ 53) (size_reaches u (s - 1) (omega (arith, S)))) (le_of_eq (sym whole)))) (pow_pos s);
  high = significand-lt x;
  reach = omega (arith, size-le u 2098 c.below);
  is = eq_of_mul-eq-mul_right 2 (omega arith) (u * 2 ^ 53 / 2 ^ s * 2 ^ (s - 1)) (u * 2 ^ 52)
      (mul_assoc (u * 2 ^ 53 / 2 ^ s) (2 ^ (s - 1)) 2 ∙ ap (λ (k : ℕ). u * 2 ^ 53 / 2 ^ s * k) (sym (pow-add 2 (s - 1) 1) ∙ ap (λ (k : ℕ). 2 ^ k) b) ∙ whole ∙ sym (mul_assoc u (2 ^ 52) 2));
}
  where
    c : Counted x
    c = counted x f h

    u : ℕ
    u = units_of x

    s : ℕ
    s = size u

    S : 0 < s
    S = some-digit u p

    a : 52 + s ≡ s - 1 + 53
    a = omega (arith, S)

    b : s - 1 + 1 ≡ s
    b = omega (arith, S)

    -- no digit is lost: of its units a number has 53 digits at most before the zeros
    reached : s ≤ 53 + c.zeros
    reached = size-le u (53 + c.zeros) (lt_of_le_of_lt (le_of_eq c.is) (shl_lt 53 c.zeros c.few))

    split : c.zeros + 53 ≡ c.zeros + 53 - s + s
    split = omega (arith, reached)

    multiple : u * 2 ^ 53 ≡ c.digits * 2 ^ (c.zeros + 53 - s) * 2 ^ s
    multiple =
        ap (λ (k : ℕ). k * 2 ^ 53) c.is
        ∙ mul_assoc c.digits (2 ^ c.zeros) (2 ^ 53)
        ∙ ap (λ (k : ℕ). c.digits * k) (sym (pow-add 2 c.zeros 53) ∙ ap (λ (k : ℕ). 2 ^ k) split ∙ pow-add 2 (c.zeros + 53 - s) s)
        ∙ sym (mul_assoc c.digits (2 ^ (c.zeros + 53 - s)) (2 ^ s))

    whole : u * 2 ^ 53 / 2 ^ s * 2 ^ s ≡ u * 2 ^ 53
    whole = ap (λ (k : ℕ). k / 2 ^ s * 2 ^ s) multiple ∙ ap (λ (k : ℕ). k * 2 ^ s) (mul-div_cancel (c.digits * 2 ^ (c.zeros + 53 - s)) (pow_pos s)) ∙ sym multiple

-- what has units is finite ..
pub finite-units : (x : Float) → 0 < units_of x → finite x ≡ true
unfolding finite units_of
finite-units nan p = absurd (omega arith)
finite-units (inf s) p = absurd (omega arith)
finite-units (fin s m e) p = refl

-- .. and what is above zero and has none is the infinity
pub infinite : (x : Float) → T (fits binary64 x) → lt nought x ≡ true → units_of x ≡ 0 → x ≡ inf false
unfolding lt
infinite nan f l u = clash l
infinite (inf true) f l u = clash l
infinite (inf false) f l u = refl
infinite (fin s m e) f l u = absurd (omega (arith, (above_zero (fin s m e) f (unfold finite in refl) l).1))
