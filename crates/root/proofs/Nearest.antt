-- The square root of a finite number above zero is the number nearest the real root (specs/Nearest.antt). Assumes nothing.
use mathlib.Core.Path.{◌≡◌, refl, sym, ◌∙◌, ap, subst}
use mathlib.Core.Bool.{Bool, true, false}
use mathlib.Core.Logic.{◌⊎◌, inl, inr}
use Prim.Native.Nat.{ℕ, zero, suc, ◌+◌, ◌-◌, ◌*◌, ◌^◌, ◌<◌, ◌≤◌}
use native.Mathlib.Nat.{le_trans, le_of_eq, le_of_lt, lt_of_lt_of_le, lt_of_le_of_lt, eq-zero-or-pos, eq-or-lt_of_le, add-mul, suc-mul, mul-suc, mul_assoc, mul-one, mul-mul-mul_comm, mul-le-mul, mul-le-mul_left, mul-le-mul_right, mul-lt-mul_of_pos_right, lt_of_mul-lt-mul_right, mul-pos}
use native.Mathlib.Omega.{arith}
use lib.Dec.{T}
use lib.Pow.{pow-add, pow_pos, pow_mono, shl_lt}
use lib.Ieee.{Float, nan, inf, fin, binary64, fits, lt}
use lib.Ieee.Exact.{HasValue}
use Rattle.numbers.specs.Number.{finite, negative, zero_f}
use Rattle.rounding.specs.Units.{units_in_one, units_of}
use Rattle.rounding.proofs.Units.{counted, units-of-value}
use Rattle.root.specs.Root.{sqrt}
use Rattle.root.specs.Nearest.{Nearest}
use Rattle.root.proofs.Halves.{NearRoot, square-sum}
use Rattle.root.proofs.Rounded.{rooted}

square-lt : (a b : ℕ) → a < b → a * a < b * b
square-lt a b h = lt_of_le_of_lt (mul-le-mul_left a (le_of_lt h)) (mul-lt-mul_of_pos_right h (lt_of_le_of_lt (omega arith) h))

-- p * H, p of 53 digits, against any v of at most 53 digits and k zeros, where H is 2 ^ h: p is the whole number nearest the root of n
module _ (n p h v q k : ℕ) (near : NearRoot n p) (low : 2 ^ 52 ≤ p) (large : 2 ^ 104 ≤ n) (few : q < 2 ^ 53) (is : v ≡ q * 2 ^ k) where
  -- v is a multiple of H, or less than any number of 53 digits times H
  kind : ((w : ℕ) × (v ≡ w * 2 ^ h)) ⊎ (v < 2 ^ 52 * 2 ^ h)
  kind = go (eq-zero-or-pos (h - k))
    where
      go : (h - k ≡ 0) ⊎ (0 < h - k) → ((w : ℕ) × (v ≡ w * 2 ^ h)) ⊎ (v < 2 ^ 52 * 2 ^ h)
      go (inl g) = let e : k ≡ k - h + h = omega arith in inl (q * 2 ^ (k - h), is ∙ ap (λ (z : ℕ). q * z) (ap (λ (z : ℕ). 2 ^ z) e ∙ pow-add 2 (k - h) h) ∙ sym (mul_assoc q (2 ^ (k - h)) (2 ^ h)))
      go (inr l) = inr (lt_of_le_of_lt (le_of_eq is) (lt_of_lt_of_le (shl_lt 53 k few) (le_trans (pow_mono (omega arith)) (le_of_eq (pow-add 2 52 h)))))

  -- where v is w * H or less, for a w with (w + p) ^ 2 < 4 * n
  sum_below : (w : ℕ) → v ≤ w * 2 ^ h → (w + p) * (w + p) < 4 * n → (v + p * 2 ^ h) * (v + p * 2 ^ h) < 4 * (n * (2 ^ h * 2 ^ h))
  sum_below w l s =
      let H = 2 ^ h in
      let a : v + p * H ≤ (w + p) * H = le_trans (add-le v (w * H) (p * H) l) (le_of_eq (sym (add-mul w p H))) in
      lt_of_le_of_lt (mul-le-mul a a) (lt_of_le_of_lt (le_of_eq (mul-mul-mul_comm (w + p) H (w + p) H)) (lt_of_lt_of_le (mul-lt-mul_of_pos_right s (mul-pos (pow_pos h) (pow_pos h))) (le_of_eq (mul_assoc 4 n (H * H)))))
    where
      add-le : (a b c : ℕ) → a ≤ b → a + c ≤ b + c
      add-le a b c h = omega arith

  below : v < p * 2 ^ h → (v + p * 2 ^ h) * (v + p * 2 ^ h) < 4 * (n * (2 ^ h * 2 ^ h))
  below l = go kind (eq-or-lt_of_le low)
    where
      -- (2 * p - 1) ^ 2 < 4 * n
      one_less : (w p : ℕ) → suc w ≤ p → p * p < n + p → (w + p) * (w + p) < 4 * n
      one_less w zero g a = omega arith
      one_less w (suc t) g a =
          let b : (w + suc t) * (w + suc t) ≤ (t + suc t) * (t + suc t) = mul-le-mul (omega arith) (omega arith) in
          omega (arith, square-sum t (suc t), mul-one t, mul-suc t t, suc-mul t (suc t))

      go : ((w : ℕ) × (v ≡ w * 2 ^ h)) ⊎ (v < 2 ^ 52 * 2 ^ h) → (2 ^ 52 ≡ p) ⊎ (2 ^ 52 < p) → (v + p * 2 ^ h) * (v + p * 2 ^ h) < 4 * (n * (2 ^ h * 2 ^ h))
      go (inl (w, e)) s = sum_below w (le_of_eq e) (one_less w p (lt_of_mul-lt-mul_right (2 ^ h) (lt_of_le_of_lt (le_of_eq (sym e)) l)) near.above)
      go (inr m) (inr s) = sum_below (2 ^ 52) (le_of_lt m) (one_less (2 ^ 52) p s near.above)
      -- just below a power of two the numbers lie closer
      go (inr m) (inl s) =
          lt_of_lt_of_le (square-lt (v + p * 2 ^ h) (2 * p * 2 ^ h) (omega (arith, l, mul_assoc 2 p (2 ^ h))))
          (le_trans (le_of_eq (mul-mul-mul_comm (2 * p) (2 ^ h) (2 * p) (2 ^ h)))
          (le_trans (mul-le-mul_right (2 ^ h * 2 ^ h) four) (le_of_eq (mul_assoc 4 n (2 ^ h * 2 ^ h)))))
        where
          four : 2 * p * (2 * p) ≤ 4 * n
          four = subst (λ (z : ℕ). 2 * z * (2 * z) ≤ 4 * n) s (omega (arith, large))

  above : p * 2 ^ h < v → 4 * (n * (2 ^ h * 2 ^ h)) < (v + p * 2 ^ h) * (v + p * 2 ^ h)
  above l = go kind
    where
      past : (w : ℕ) → p < w → 4 * n < (w + p) * (w + p)
      past w g =
          let b : (suc p + p) * (suc p + p) ≤ (w + p) * (w + p) = mul-le-mul (omega arith) (omega arith) in
          omega (arith, near.below, square-sum (suc p) p, suc-mul p p, suc-mul p (suc p), mul-suc p p)

      go : ((w : ℕ) × (v ≡ w * 2 ^ h)) ⊎ (v < 2 ^ 52 * 2 ^ h) → 4 * (n * (2 ^ h * 2 ^ h)) < (v + p * 2 ^ h) * (v + p * 2 ^ h)
      go (inl (w, e)) =
          let a : (w + p) * 2 ^ h ≡ v + p * 2 ^ h = add-mul w p (2 ^ h) ∙ ap (λ (z : ℕ). z + p * 2 ^ h) (sym e) in
          lt_of_le_of_lt (le_of_eq (sym (mul_assoc 4 n (2 ^ h * 2 ^ h))))
          (lt_of_lt_of_le (mul-lt-mul_of_pos_right (past w (lt_of_mul-lt-mul_right (2 ^ h) (lt_of_lt_of_le l (le_of_eq e)))) (mul-pos (pow_pos h) (pow_pos h)))
          (le_of_eq (sym (mul-mul-mul_comm (w + p) (2 ^ h) (w + p) (2 ^ h)) ∙ ap (λ (z : ℕ). z * z) a)))
      go (inr m) = absurd (far (p * 2 ^ h) (2 ^ 52 * 2 ^ h) v (mul-le-mul_right (2 ^ h) low) l m)
        where
          far : (a b v : ℕ) → b ≤ a → a < v → v < b → ⊥
          far a b v x y z = omega arith

value-finite : (x : Float) (s : Bool) (a c : ℕ) → HasValue x s a c → (finite x ≡ true) × (negative x ≡ s)
unfolding finite negative
value-finite nan s a c h = absurd h
value-finite (inf t) s a c h = absurd h
value-finite (fin t m e) s a c h = (refl, h.0)

-- the number of p * 2 ^ h units, where p is the whole number nearest the root of n and x * units_in_one is n * 2 ^ (h + h) units
of-near : (x r : Float) (n p h : ℕ) → HasValue r false (p * 2 ^ h) units_in_one → units_of x * units_in_one ≡ n * (2 ^ h * 2 ^ h) → NearRoot n p → 2 ^ 52 ≤ p → 2 ^ 104 ≤ n → Nearest x r
of-near x r n p h value same near low large = record {
  is_finite = (value-finite r false (p * 2 ^ h) units_in_one value).0;
  is_positive = (value-finite r false (p * 2 ^ h) units_in_one value).1;
  below = λ y f g o.
      let c = counted y f g in
      rw (units, same) (below n p h (units_of y) c.digits c.zeros near low large c.few c.is (rw units at o));
  above = λ y f g o.
      let c = counted y f g in
      rw (units, same) (above n p h (units_of y) c.digits c.zeros near low large c.few c.is (rw units at o));
}
  where
    units : units_of r ≡ p * 2 ^ h
    units = units-of-value r false (p * 2 ^ h) value

pub nearest : (x : Float) → T (fits binary64 x) → finite x ≡ true → lt zero_f x ≡ true → Nearest x (sqrt x)
nearest x f g l = let r = rooted x f g l in of-near x (sqrt x) r.n r.p r.h r.value r.same r.near r.low r.large
