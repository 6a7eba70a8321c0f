-- The error of ln: at most 2 ^ -41 for each finite x above zero, and at most 2 ^ -49 for each from 1/2 to 2. Assumes nothing.
use Rattle.std.proofs.Common.{◌≡◌, ℕ, ◌+◌, ◌-◌, ◌*◌, ◌/◌, ◌%◌, ◌^◌, ◌<◌, ◌≤◌, Bool, true, false, T, ◌⊎◌, pos, negsuc, sym, refl, ap, ◌∙◌, subst, inl, inr, le_trans, le_of_eq, le_refl, lt_of_lt_of_le, le_of_suc-le-suc, mul-le-mul_right, mul_assoc, add-sub_of_le, mul-le-mul, eq-or-lt_of_le, mul-lt-mul_of_pos_right, mul-pos, lt_of_not-le, zero-mul, mul-one, not-le_of_lt, le_of_mul-le-mul_right, arith, lit<, lit≤, ltb→lt, pow_pos, pow_mono, lt-ltb}
use lib.Ieee.{Float, nan, inf, fin, binary64, up, down, fits, lt, le, of_bits}
use lib.Ieee.Exact.{HasValue}
use lib.Ieee.Positive.{positive, values_of_le, between as inside}
use lib.Ieee.Fits.{up_pos}
use Rattle.numbers.specs.Number.{finite, negative}
use Rattle.numbers.proofs.Leaves.{nought}
use Rattle.rounding.specs.Units.{units_in_one, units_of}
use Rattle.rounding.specs.Near.{Near}
use Rattle.rounding.proofs.Units.{counted, above_zero}
use Rattle.rounding.proofs.Sums.{loosen}
use Rattle.significand.specs.Significand.{significand_of, exponent_of}
use Rattle.significand.proofs.Exact.{Exact, exact}
use Rattle.logarithm.specs.Series.{ln1p, ln_entry, ln_plus, ln_minus}
use Rattle.logarithm.specs.Steps.{ln_of, ln, quotient_of, quotient_f, remainder_f}
use Rattle.logarithm.specs.Error.{LnNear, LnError}
use Rattle.logarithm.proofs.Cases.{of-finite}
use Rattle.logarithm.proofs.Table.{quotient-lt, first-quotient}
use Rattle.logarithm.proofs.Error.{series-near}

-- what is near the series in steps, for a finite x above zero
near_of : (d : ℕ) (x : Float) → lt nought x ≡ true → finite x ≡ true
    → ((r : ℕ) → Near d (ln_of quotient_f remainder_f (significand_of x) (exponent_of x))
    (exponent_of x * ln_entry (12 + r) 256 + ln_entry (12 + r) (significand_of x / 2 ^ 44 - 256) + ln1p (12 + r) (significand_of x % 2 ^ 44) (significand_of x / 2 ^ 44 * 2 ^ 44)) (1074 * ln_entry (12 + r) 256))
    → LnNear d x (ln x)
unfolding ln ln_plus ln_minus
near_of d x l h n = record { near = λ k g. subst (λ (z : ℕ). Near d (ln x) (ln_plus z x) (ln_minus z)) (add-sub_of_le g) (rw (of-finite quotient_f remainder_f x l h) (n (k - 12))) }

module _ (x : Float) (p : Exact x) where
  abbrev m : ℕ
  m = significand_of x

  abbrev n : ℕ
  n = exponent_of x

  abbrev q : ℕ
  q = quotient_of (significand_of x / 2 ^ 44 - 256)

  q-lt : q < 6096987078287
  q-lt = quotient-lt (m / 2 ^ 44 - 256) (place m p.high)
    where
      place : (m : ℕ) → m < 2 ^ 53 → m / 2 ^ 44 - 256 < 257
      place m h = omega arith

  abbrev IsNear : ℕ → ℕ → Type 0
  IsNear d r = Near d (ln_of quotient_f remainder_f m n) (n * ln_entry (12 + r) 256 + ln_entry (12 + r) (m / 2 ^ 44 - 256) + ln1p (12 + r) (m % 2 ^ 44) (m / 2 ^ 44 * 2 ^ 44)) (1074 * ln_entry (12 + r) 256)

  everywhere : (d : ℕ) → 2 ^ 1031 + 2 ^ 1024 ≤ d → (r : ℕ) → IsNear d r
  everywhere d g r = loosen g (series-near m n 1031 9007199254740992 p.low p.high p.reach (lit≤ tt) refl (over n q p.reach q-lt) (under n q) r)
    where
      over : (n q : ℕ) → n ≤ 2097 → q < 6096987078287 → n * 6096987078286 + q + 137438953472 < 1074 * 6096987078286 + 9007199254740992
      over n q h l = omega arith

      under : (n q : ℕ) → 1074 * 6096987078286 + 137438953472 < n * 6096987078286 + q + 9007199254740992
      under n q = omega arith

  -- x is from 1/2 to 2, which its units say
  between : units_in_one ≤ units_of x * 2 → units_of x ≤ 2 * units_in_one → (d : ℕ) → 2 ^ 1021 + 2 ^ 1024 ≤ d → (r : ℕ) → IsNear d r
  between low high d g r = loosen g (series-near m n 1021 8796093022208 p.low p.high p.reach (lit≤ tt) refl over under r)
    where
      lo : 2 ^ 1125 ≤ m * 2 ^ n
      lo = le_trans (mul-le-mul_right (2 ^ 51) low) (le_of_eq (mul_assoc (units_of x) 2 (2 ^ 51) ∙ sym p.is))

      hi : m * 2 ^ n ≤ 2 ^ 1127
      hi = le_trans (le_of_eq p.is) (mul-le-mul_right (2 ^ 52) high)

      n-ge : 1073 ≤ n
      n-ge = lt_of_not-le (λ (a : n ≤ 1072). not-le_of_lt (lt_of_lt_of_le (mul-lt-mul_of_pos_right p.high (pow_pos n)) (le_trans (mul-le-mul (le_refl (2 ^ 53)) (pow_mono a)) (lit≤ tt))) lo)

      n-le : n ≤ 1075
      n-le = le_of_suc-le-suc (lt_of_not-le (λ (a : 1076 ≤ n). not-le_of_lt (lt_of_lt_of_le (lit< tt) (mul-le-mul p.low (pow_mono a))) hi))

      -- at n = 1075 x is 2
      at-two : n ≡ 1075 → q ≡ 0
      at-two e =
          let a : m * 2 ^ 1075 ≤ 2 ^ 52 * 2 ^ 1075 = subst (λ (k : ℕ). m * 2 ^ k ≤ 2 ^ 1127) e hi in
          ap quotient_of (zeroth m (le_of_mul-le-mul_right a (pow_pos 1075))) ∙ first-quotient
        where
          zeroth : (m : ℕ) → m ≤ 2 ^ 52 → m / 2 ^ 44 - 256 ≡ 0
          zeroth m h = omega arith

      over : n * 6096987078286 + q + 137438953472 < 1074 * 6096987078286 + 8796093022208
      over = go (eq-or-lt_of_le n-le)
        where
          small : (n q : ℕ) → n < 1075 → q < 6096987078287 → n * 6096987078286 + q + 137438953472 < 1074 * 6096987078286 + 8796093022208
          small n q h l = omega arith

          edge : (n q : ℕ) → n ≡ 1075 → q ≡ 0 → n * 6096987078286 + q + 137438953472 < 1074 * 6096987078286 + 8796093022208
          edge n q h l = omega arith

          go : (n ≡ 1075) ⊎ (n < 1075) → n * 6096987078286 + q + 137438953472 < 1074 * 6096987078286 + 8796093022208
          go (inl e) = edge n q e (at-two e)
          go (inr l) = small n q l q-lt

      under : 1074 * 6096987078286 + 137438953472 < n * 6096987078286 + q + 8796093022208
      under = low_end n q n-ge
        where
          low_end : (n q : ℕ) → 1073 ≤ n → 1074 * 6096987078286 + 137438953472 < n * 6096987078286 + q + 8796093022208
          low_end n q h = omega arith

-- what lies between two numbers above zero is one
of_positive : (x : Float) → T (positive x) → (finite x ≡ true) × (negative x ≡ false) × (lt nought x ≡ true)
unfolding finite negative lt
of_positive nan h = absurd h
of_positive (inf s) h = absurd h
of_positive (fin true m e) h = absurd h
of_positive (fin false m e) h = (refl, refl, lt-ltb (0 * down e) (m * up e * 1) (rw (zero-mul, mul-one) (mul-pos (ltb→lt 0 m h) (up_pos e))))

pub ln-error : (x : Float) → T (fits binary64 x) → LnError x (ln x)
unfolding of_bits
ln-error x f = record {
  everywhere = λ h l. near_of _ x l h (λ r. everywhere x (exact x f h (above_zero x f h l).1) _ (lit≤ tt) r);
  between = λ a b.
      let half = fin false 1 (negsuc 0) in
      let two = fin false 1 (pos 1) in
      let a' : T (le half x) = subst T (sym a) tt in
      let b' : T (le x two) = subst T (sym b) tt in
      let p = inside half x two tt tt a' b' in
      let s = of_positive x p in
      let h = s.0 in
      let l = s.2 in
      let value : HasValue x false (units_of x) units_in_one = subst (λ (g : Bool). HasValue x g (units_of x) units_in_one) s.1 (counted x f h).value in
      let low : 1 * units_in_one ≤ units_of x * 2 = values_of_le half x 1 2 (units_of x) units_in_one tt p (refl, refl) value a' in
      let high : units_of x * 1 ≤ 2 * units_in_one = values_of_le x two (units_of x) units_in_one 2 1 p tt value (refl, refl) b' in
      near_of _ x l h (λ r. between x (exact x f h (above_zero x f h l).1) low (le_trans (le_of_eq (sym (mul-one (units_of x)))) high) _ (lit≤ tt) r);
}
