-- Numbers by their values: what is written in one way, what rounding leaves as it is, and sums to which a zero is added. Assumes nothing.
use mathlib.Core.Path.{◌≡◌, refl, sym, ◌∙◌, ap, ap₂, subst}
use mathlib.Core.Bool.{Bool, ◌&&◌, cond}
use Prim.Native.Nat.{ℕ, suc, ◌+◌, ◌-◌, ◌*◌, ◌/◌, ◌%◌, ◌^◌, ◌<◌, ◌≤◌}
use native.Mathlib.Nat.{mul-one, mul_assoc, mul_comm, mul_right_comm, eq_of_mul-eq-mul_right, mul-lt-mul_of_pos_right}
use lib.IntN.{ℤ, pos, negsuc}
use lib.Dec.{T, leb, ltb, eqb, leb→le, ltb→lt}
use lib.Pow.{pow_pos, pow-add}
use lib.Ieee.{Float, nan, inf, fin, Format, prec, emax, low, up, down, size, round, fits, to_bits, of_bits, top, hid}
use lib.Ieee.Bits.{of_bits-to_bits}
use lib.Ieee.Digits.{back}
use lib.Ieee.Exact.{HasValue, round_exact}
use lib.Ieee.Fits.{and_l, and_r, down_pos, round-fits}
use Rattle.rounding.proofs.Units.{pow-le}
use lib.Ieee.Nearest.{div_same}

-- x / dx and y / dy are both a / c
level : (x dx y dy a c : ℕ) → 0 < c → x * c ≡ a * dx → y * c ≡ a * dy → x * dy ≡ y * dx
level x dx y dy a c p vx vy =
    eq_of_mul-eq-mul_right c p (x * dy) (y * dx)
    (mul_right_comm x dy c
    ∙ ap (λ (z : ℕ). z * dy) vx
    ∙ mul_right_comm a dx dy
    ∙ ap (λ (z : ℕ). z * dx) (sym vy)
    ∙ mul_right_comm y c dx)

-- two numbers of the format with the same sign and the same size are one
pub value-unique : (f : Format) (x y : Float) (s : Bool) (a c : ℕ) → 0 < c → T (fits f x) → T (fits f y) → HasValue x s a c → HasValue y s a c → x ≡ y
unfolding to_bits
value-unique f nan y s a c p fx fy vx vy = absurd vx
value-unique f (inf t) y s a c p fx fy vx vy = absurd vx
value-unique f (fin t m e) nan s a c p fx fy vx vy = absurd vy
value-unique f (fin t m e) (inf u) s a c p fx fy vx vy = absurd vy
value-unique f (fin t m e) (fin u n d) s a c p fx fy vx vy =
    sym (of_bits-to_bits f (fin t m e) fx) ∙ ap (of_bits f) same ∙ of_bits-to_bits f (fin u n d) fy
  where
    cross : m * up e * down d ≡ n * up d * down e
    cross = level (m * up e) (down e) (n * up d) (down d) a c p vx.1 vy.1

    digits : m * up e * 2 ^ low f / down e ≡ n * up d * 2 ^ low f / down d
    digits = div_same (m * up e * 2 ^ low f) (down e) (n * up d * 2 ^ low f) (down d) (down_pos e) (down_pos d) (mul_right_comm (m * up e) (2 ^ low f) (down d) ∙ ap (λ (z : ℕ). z * 2 ^ low f) cross ∙ mul_right_comm (n * up d) (down e) (2 ^ low f))

    same : to_bits f (fin t m e) ≡ to_bits f (fin u n d)
    same = ap₂ (λ (b : Bool) (z : ℕ). cond b (top f) 0 + (size z - prec f) * hid f + z / 2 ^ (size z - prec f)) (vx.0 ∙ sym vy.0) digits

-- ---- rounding a number of the format leaves it as it is

-- a number that fits is a whole number below 2 ^ prec, times a power of two, of the format's smallest values
record Whole (f : Format) (m : ℕ) (e : ℤ) : Type 0 where
  pub power : ℕ
  pub is : m * up e * 2 ^ low f ≡ m * 2 ^ power * down e
  pub digits : m < 2 ^ prec f
  pub below : m * 2 ^ power < 2 ^ (low f + suc (emax f))

-- what fitting says of a number that is not zero
module _ (f : Format) (s : Bool) (m : ℕ) (e : ℤ) (h : T (fits f (fin s (suc m) e))) where
  fit-digits : suc m < 2 ^ prec f
  unfolding fits
  fit-digits =
      ltb→lt (suc m) (2 ^ prec f)
      (and_r (eqb (suc m % 2) 1) (ltb (suc m) (2 ^ prec f))
      (and_l (eqb (suc m % 2) 1 && ltb (suc m) (2 ^ prec f)) (leb (down e) (2 ^ low f))
      (and_l (eqb (suc m % 2) 1 && ltb (suc m) (2 ^ prec f) && leb (down e) (2 ^ low f)) (ltb (suc m * up e) (2 ^ suc (emax f) * down e)) h)))

  fit_low : down e ≤ 2 ^ low f
  unfolding fits
  fit_low =
      leb→le (down e) (2 ^ low f)
      (and_r (eqb (suc m % 2) 1 && ltb (suc m) (2 ^ prec f)) (leb (down e) (2 ^ low f))
      (and_l (eqb (suc m % 2) 1 && ltb (suc m) (2 ^ prec f) && leb (down e) (2 ^ low f)) (ltb (suc m * up e) (2 ^ suc (emax f) * down e)) h))

  fit-high : suc m * up e < 2 ^ suc (emax f) * down e
  unfolding fits
  fit-high =
      ltb→lt (suc m * up e) (2 ^ suc (emax f) * down e)
      (and_r (eqb (suc m % 2) 1 && ltb (suc m) (2 ^ prec f) && leb (down e) (2 ^ low f)) (ltb (suc m * up e) (2 ^ suc (emax f) * down e)) h)

whole : (f : Format) (s : Bool) (m : ℕ) (e : ℤ) → T (fits f (fin s (suc m) e)) → Whole f (suc m) e
whole f s m (pos k) h =
    let q : suc m * 2 ^ k * 2 ^ low f ≡ suc m * 2 ^ (k + low f) = mul_assoc (suc m) (2 ^ k) (2 ^ low f) ∙ ap (λ (z : ℕ). suc m * z) (sym (pow-add 2 k (low f))) in
    record {
      power = k + low f;
      is = q ∙ sym (mul-one (suc m * 2 ^ (k + low f)));
      digits = fit-digits f s m (pos k) h;
      below = subst (λ (z : ℕ). z < 2 ^ (low f + suc (emax f))) q
          (subst (λ (z : ℕ). suc m * 2 ^ k * 2 ^ low f < z) (top-is (low f) (suc (emax f)))
          (mul-lt-mul_of_pos_right (subst (λ (z : ℕ). suc m * 2 ^ k < z) (mul-one (2 ^ suc (emax f))) (fit-high f s m (pos k) h)) (pow_pos (low f))));
    }
  where
    top-is : (l a : ℕ) → 2 ^ a * 2 ^ l ≡ 2 ^ (l + a)
    top-is l a = mul_comm (2 ^ a) (2 ^ l) ∙ sym (pow-add 2 l a)
whole f s m (negsuc k) h =
    let l : suc k ≤ low f = pow-le (suc k) (low f) (fit_low f s m (negsuc k) h) in
    let q : 2 ^ (low f - suc k) * 2 ^ suc k ≡ 2 ^ low f = sym (pow-add 2 (low f - suc k) (suc k)) ∙ ap (λ (z : ℕ). 2 ^ z) (back (low f) (suc k) l) in
    record {
      power = low f - suc k;
      is = ap (λ (z : ℕ). z * 2 ^ low f) (mul-one (suc m)) ∙ ap (λ (z : ℕ). suc m * z) (sym q) ∙ sym (mul_assoc (suc m) (2 ^ (low f - suc k)) (2 ^ suc k));
      digits = fit-digits f s m (negsuc k) h;
      below = subst (λ (z : ℕ). suc m * 2 ^ (low f - suc k) < z) (reach (2 ^ suc (emax f)) (2 ^ suc k) (2 ^ (low f - suc k)) q ∙ sym (pow-add 2 (low f) (suc (emax f))))
          (mul-lt-mul_of_pos_right (subst (λ (z : ℕ). z < 2 ^ suc (emax f) * 2 ^ suc k) (mul-one (suc m)) (fit-high f s m (negsuc k) h)) (pow_pos (low f - suc k)));
    }
  where
    reach : (a b c : ℕ) → c * b ≡ 2 ^ low f → a * b * c ≡ 2 ^ low f * a
    reach a b c q = mul_assoc a b c ∙ ap (λ (z : ℕ). a * z) (mul_comm b c ∙ q) ∙ mul_comm a (2 ^ low f)

-- x / d is a / c, and so many units of 1 / l
crossed : (x d a c l w : ℕ) → 0 < d → x * l ≡ w * d → x * c ≡ a * d → a * l ≡ w * c
crossed x d a c l w p u v =
    eq_of_mul-eq-mul_right d p (a * l) (w * c)
    (mul_right_comm a l d
    ∙ ap (λ (z : ℕ). z * l) (sym v)
    ∙ mul_right_comm x c l
    ∙ ap (λ (z : ℕ). z * c) u
    ∙ mul_right_comm w d c)

-- a number of the format that is not zero, rounded from any fraction that it equals
pub round-self : (f : Format) (s : Bool) (m : ℕ) (e : ℤ) (a c : ℕ) → 0 < c → T (fits f (fin s (suc m) e)) → suc m * up e * c ≡ a * down e → round f s a c ≡ fin s (suc m) e
round-self f s m e a c p h v =
    let w = whole f s m e h in
    value-unique f (round f s a c) (fin s (suc m) e) s a c p (round-fits f s a c) h
    (round_exact f s a c (suc m) w.power p w.digits w.below
    (crossed (suc m * up e) (down e) a c (2 ^ low f) (suc m * 2 ^ w.power) (down_pos e) w.is v))
    (refl, v)
