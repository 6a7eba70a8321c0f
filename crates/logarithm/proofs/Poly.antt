-- The polynomial in steps is within 2 ^ 1023 units, 2 ^ -51, of the series at six terms or more, for a t that is l / m but for its own rounding, l / m a 256th at most.
-- Assumes nothing.
use Rattle.std.proofs.Common.{ℕ, suc, ◌+◌, ◌-◌, ◌*◌, ◌/◌, ◌^◌, ◌<◌, ◌≤◌, false, T as Yes, leb, sym, refl, ap, ◌∙◌, subst, le_trans, le_of_eq, le_refl, lt_of_lt_of_le, lt_of_le_of_lt, le_of_lt, add-le-add, mul-le-mul_right, mul_assoc, mul_comm, add-mul, mul-le-mul, mul-le-mul_left, mul-lt-mul_of_pos_right, mul-one, le_of_mul-le-mul_right, sub-le, arith, lit<, lit≤, pow_pos}
use native.Mathlib.Nat.{mul-mul-mul_comm}
use lib.Ieee.{Float, div, of_int}
use lib.Ieee.Exact.{HasValue}
use Rattle.numbers.specs.Number.{◌-ᶠ◌, ◌*ᶠ◌, ◌/ᶠ◌}
use Rattle.rounding.specs.Units.{units_in_one, whole}
use Rattle.rounding.specs.Near.{Within, Near}
use Rattle.rounding.proofs.Within.{then, widen, cancel, minus, less, to-floor, recast}
use Rattle.rounding.proofs.Rounded.{round-near}
use Rattle.rounding.proofs.Operations.{div-at}
use Rattle.rounding.proofs.Sums.{own, loosen, shift, sub-near}
use Rattle.rounding.proofs.Products.{multiply, product, subtract}
use Rattle.rounding.proofs.Exact.{whole-value}
use Rattle.logarithm.specs.Series.{nested, ln1p}
use Rattle.logarithm.specs.Steps.{inverse, poly}
use Rattle.logarithm.proofs.Terms.{nested-le, part-le}
use Rattle.logarithm.proofs.Fractions.{parts, sixth, square}

-- y is not negative, within d units of h, and at most 1
record Approx (y : Float) (h d : ℕ) : Type 0 where
  count : ℕ
  value : HasValue y false count units_in_one
  close : Within d count h
  small : count ≤ units_in_one

looser : {y : Float} {h d e : ℕ} → d ≤ e → Approx y h d → Approx y h e
looser l a = record { count = a.count; value = a.value; close = widen l a.close; small = a.small }

-- ---- the coefficients: 1 / i, rounded
record Coefficient (i : ℕ) : Type 0 where
  count : ℕ
  value : HasValue (inverse i) false count units_in_one
  close : Within (2 ^ 1021) count (units_in_one / i)
  low : 2 ^ 1068 ≤ count
  high : count ≤ 2 ^ 1073

coefficient : (i c : ℕ) → HasValue (inverse i) false c units_in_one → Yes (leb c (units_in_one / i + 2 ^ 1021)) → Yes (leb (units_in_one / i) (c + 2 ^ 1021)) → Yes (leb (2 ^ 1068) c) → Yes (leb c (2 ^ 1073)) → Coefficient i
coefficient i c v o u l h = record { count = c; value = v; close = record { over = lit≤ o; under = lit≤ u }; low = lit≤ l; high = lit≤ h }

half : Coefficient 2
unfolding of_int div
half = coefficient 2 (2 ^ 1073) (refl, refl) tt tt tt tt

third : Coefficient 3
unfolding of_int div
third = coefficient 3 (6004799503160661 * 2 ^ 1020) (refl, refl) tt tt tt tt

fourth : Coefficient 4
unfolding of_int div
fourth = coefficient 4 (2 ^ 1072) (refl, refl) tt tt tt tt

fifth : Coefficient 5
unfolding of_int div
fifth = coefficient 5 (3602879701896397 * 2 ^ 1020) (refl, refl) tt tt tt tt

module _ (t : Float) (T l m : ℕ) (M : 0 < m) (s : l * 256 ≤ m) (tv : HasValue t false T units_in_one) (tn : Within (2 ^ 1013 * m) (T * m) (l * units_in_one)) where
  l_le : l ≤ m
  l_le = omega arith

  T-le : T ≤ 2 ^ 1066 + 2 ^ 1013
  T-le = le_of_mul-le-mul_right (le_trans tn.over (le_trans (add-le-add top (le_refl (2 ^ 1013 * m))) (le_of_eq (ap (λ (z : ℕ). z + 2 ^ 1013 * m) (mul_comm m (2 ^ 1066)) ∙ sym (add-mul (2 ^ 1066) (2 ^ 1013) m))))) M
    where
      top : l * units_in_one ≤ m * 2 ^ 1066
      top = le_trans (le_of_eq (sym (mul_assoc l 256 (2 ^ 1066)))) (mul-le-mul_right (2 ^ 1066) s)

  T-lt : T < 2 ^ 1067
  T-lt = lt_of_le_of_lt T-le (lit< tt)

  T-one : T ≤ units_in_one
  T-one = le_of_lt (lt_of_lt_of_le T-lt (lit≤ tt))

  -- 1 / i - y, for a y that is near x
  lessened : (i : ℕ) (y : Float) (v x d : ℕ) → Coefficient i → HasValue y false v units_in_one → v ≤ 2 ^ 1066 + 2 ^ 1013 + 2 ^ 1014 → Within d v x → Approx (inverse i -ᶠ y) (units_in_one / i - x) (2 ^ 1021 + (2 ^ 1021 + d))
  lessened i y v x d C yv most near =
      let r = subtract (inverse i) y C.count v 1021 C.value yv (lit≤ tt) (lt_of_lt_of_le (lt_of_le_of_lt most (lit< tt)) C.low) (lt_of_le_of_lt C.high (lit< tt)) in
      record {
        count = r.count;
        value = r.value;
        close = then r.close (minus C.close near);
        small = le_trans r.close.over (le_trans (add-le-add (le_trans (sub-le C.count v) C.high) (le_refl (2 ^ 1021))) (lit≤ tt));
      }

  -- 1 / i - t * y
  step : (i : ℕ) (y : Float) (h e : ℕ) → Coefficient i → Approx y h (256 * e) → Approx (inverse i -ᶠ t *ᶠ y) (units_in_one / i - l * h / m) (e + 2 ^ 1023)
  step i y h e C Y =
      let p = multiply t y T Y.count 1014 tv Y.value (lit≤ tt) T-lt Y.small in
      let near : Within (2 ^ 1014 + 2 ^ 1013 + e + 1) p.count (l * h / m) = to-floor (2 ^ 1014 + 2 ^ 1013 + e) p.count (l * h) m M (product units_in_one p.count T Y.count l m h (2 ^ 1013) 256 e (2 ^ 1014) (pow_pos 1074) p.close tn Y.close s Y.small) in
      looser (room (2 ^ 1021) (2 ^ 1014) (2 ^ 1013) e (2 ^ 1023) (lit≤ tt)) (lessened i (t *ᶠ y) p.count (l * h / m) (2 ^ 1014 + 2 ^ 1013 + e + 1) C p.value (le_trans p.most (add-le-add T-le (le_refl (2 ^ 1014)))) near)
    where
      room : (a b c e z : ℕ) → a + a + b + c + 1 ≤ z → a + (a + (b + c + e + 1)) ≤ e + z
      room a b c e z h = omega arith

  -- 1 / 5 - t / 6
  last : (r : ℕ) → Approx (inverse 5 -ᶠ t /ᶠ whole 6) (units_in_one / 5 - l * nested (suc r) 6 l m / m) (256 * 2 ^ 1051)
  unfolding nested
  last r =
      let h7 = nested r 7 l m in
      let h = nested (suc r) 6 l m in
      let hh : Within (256 * 2 ^ 1058) h (units_in_one / 6) = less (units_in_one / 6) (l * h7 / m) (2 ^ 1066) (part-le l m h7 M s (nested-le r 7 l m)) in
      let six-more : units_in_one ≤ 6 * units_in_one = lit≤ tt in
      let d = round-near false (T * 1) (6 * units_in_one) 1014 (lit< tt) (lit≤ tt) (lt_of_le_of_lt (le_of_eq (ap (λ (z : ℕ). z * units_in_one) (mul-one T))) (lt_of_lt_of_le (mul-lt-mul_of_pos_right T-lt (pow_pos 1074)) (mul-le-mul_left (2 ^ 1067) six-more))) in
      let v = d.count in
      let dv : HasValue (t /ᶠ whole 6) false v units_in_one = subst (λ (z : Float). HasValue z false v units_in_one) (sym (div-at t (whole 6) false false T units_in_one 6 1 (pow_pos 1074) (lit< tt) (lit< tt) tv (whole-value 6 (lit≤ tt)))) d.value in
      let dn : Within (2 ^ 1014 * 6) (v * 6) T = cancel units_in_one (2 ^ 1014 * 6) (v * 6) T (pow_pos 1074) (recast (sym (mul_assoc (2 ^ 1014) 6 units_in_one)) (sym (mul_assoc v 6 units_in_one)) (ap (λ (z : ℕ). z * units_in_one) (mul-one T)) d.close) in
      let near : Within (2 ^ 1014 + 2 ^ 1013 + 2 ^ 1058 + 1 + 1) v (l * h / m) = to-floor (2 ^ 1014 + 2 ^ 1013 + 2 ^ 1058 + 1) v (l * h) m M (sixth units_in_one v T l m h (2 ^ 1013) (2 ^ 1014) (2 ^ 1058) l_le dn tn hh s) in
      looser (lit≤ tt) (lessened 5 (t /ᶠ whole 6) v (l * h / m) (2 ^ 1014 + 2 ^ 1013 + 2 ^ 1058 + 1 + 1) fifth dv (le_trans (sixth-le v T (2 ^ 1014) dn.over) (add-le-add T-le (le_refl (2 ^ 1014)))) near)
    where
      sixth-le : (v x k : ℕ) → v * 6 ≤ x + k * 6 → v ≤ x + k
      sixth-le v x k h = omega arith

  -- the polynomial is t - t * t * inner
  inner : Float
  inner = inverse 2 -ᶠ t *ᶠ (inverse 3 -ᶠ t *ᶠ (inverse 4 -ᶠ t *ᶠ (inverse 5 -ᶠ t /ᶠ whole 6)))

  -- its inner part is near the series from its second term on
  inner-near : (r : ℕ) → Approx inner (nested (suc (suc (suc (suc (suc r))))) 2 l m) (65536 * 2 ^ 1022)
  unfolding nested inner
  inner-near r =
      let a5 = inverse 5 -ᶠ t /ᶠ whole 6 in
      let a4 = inverse 4 -ᶠ t *ᶠ a5 in
      let a3 = inverse 3 -ᶠ t *ᶠ a4 in
      let h5 = nested (suc (suc r)) 5 l m in
      let h4 = nested (suc (suc (suc r))) 4 l m in
      let h3 = nested (suc (suc (suc (suc r)))) 3 l m in
      let A4 : Approx a4 h4 (256 * 2 ^ 1044) = looser (lit≤ tt) (step 4 a5 h5 (2 ^ 1051) fourth (last r)) in
      let A3 : Approx a3 h3 (256 * 2 ^ 1037) = looser (lit≤ tt) (step 3 a4 h4 (2 ^ 1044) third A4) in
      looser (lit≤ tt) (step 2 a3 h3 (2 ^ 1037) half A3)

  pub poly-near : (r : ℕ) → Near (2 ^ 1023) (poly t) (ln1p (suc (suc (suc (suc (suc (suc r)))))) l m) 0
  unfolding poly ln1p nested inner
  poly-near r =
      let h = nested (suc (suc (suc (suc (suc r))))) 2 l m in
      let A = inner-near r in
      let w = multiply t t T T 1014 tv tv (lit≤ tt) T-lt T-one in
      let W = w.count in
      let W-le : W ≤ 2 ^ 1066 + 2 ^ 1013 + 2 ^ 1014 = le_trans w.most (add-le-add T-le (le_refl (2 ^ 1014))) in
      let tt' : Within (256 * 2 ^ 1006) T (l * units_in_one / m) = widen (lit≤ tt) (to-floor (2 ^ 1013) T (l * units_in_one) m M tn) in
      let k = 2 ^ 1014 + 2 ^ 1013 + 2 ^ 1006 in
      let wn : Within ((k + 1) * (m * m)) (W * (m * m)) (l * l * units_in_one) = square units_in_one W l m k M l_le (product units_in_one W T T l m (l * units_in_one / m) (2 ^ 1013) 256 (2 ^ 1006) (2 ^ 1014) (pow_pos 1074) w.close tn tt' s T-one) in
      let v = multiply (t *ᶠ t) inner W A.count 1015 w.value A.value (lit≤ tt) (lt_of_le_of_lt W-le (lit< tt)) A.small in
      let Z = v.count in
      let sq : l * l * 65536 ≤ m * m = le_trans (le_of_eq (sym (mul-mul-mul_comm l 256 l 256))) (mul-le-mul s s) in
      let vn : Within ((2 ^ 1015 + (k + 1) + 2 ^ 1022) * (m * m)) (Z * (m * m)) (l * l * h) = product units_in_one Z W A.count (l * l) (m * m) h (k + 1) 65536 (2 ^ 1022) (2 ^ 1015) (pow_pos 1074) v.close wn A.close sq A.small in
      let Z-le : Z ≤ 2 ^ 1066 + 2 ^ 1013 + 2 ^ 1014 + 2 ^ 1015 = le_trans v.most (add-le-add W-le (le_refl (2 ^ 1015))) in
      let G : l * h / m ≤ units_in_one = le_trans (part-le l m h M s (nested-le (suc (suc (suc (suc (suc r))))) 2 l m)) (lit≤ tt) in
      let pn = parts units_in_one T Z l m h (2 ^ 1013) (2 ^ 1015 + (k + 1) + 2 ^ 1022) M l_le G tn vn in
      let d = sub-near t (t *ᶠ t *ᶠ inner) 0 0 T 0 Z 0 1021 (own t false T tv) (own (t *ᶠ t *ᶠ inner) false Z v.value) (lit≤ tt) (fine-a T Z (2 ^ 1074) (lt_of_lt_of_le T-lt (lit≤ tt))) (fine-b T Z (2 ^ 1074) (lt_of_le_of_lt Z-le (lit< tt))) in
      loosen (lit≤ tt) (shift d (turn T Z (l * (units_in_one - l * h / m) / m) pn))
    where
      fine-a : (x y z : ℕ) → x < z → x + 0 + 0 + 0 < 0 + y + z
      fine-a x y z h = omega arith

      fine-b : (x y z : ℕ) → y < z → 0 + y + 0 + 0 < x + 0 + z
      fine-b x y z h = omega arith

      turn : (x y z : ℕ) {d : ℕ} → Within d x (z + y) → Within d (x + 0 + 0) (z + (0 + y))
      turn x y z h = record { over = omega (arith, h.over); under = omega (arith, h.under) }
