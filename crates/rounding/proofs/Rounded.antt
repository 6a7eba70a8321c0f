-- What `round` gives, in units, is within 2 ^ k of the fraction that it is handed, where that is below 2 ^ (53 + k). Assumes nothing.
use mathlib.Core.Path.{◌≡◌, sym, ◌∙◌, subst}
use mathlib.Core.Bool.{Bool}
use Prim.Native.Nat.{ℕ, suc, ◌+◌, ◌-◌, ◌*◌, ◌/◌, ◌%◌, ◌^◌, ◌≤◌, ◌<◌, compare}
use native.Mathlib.Nat.{le_trans, le_of_eq, lt_of_lt_of_le, lt_of_le_of_lt, add-mul, mul_comm, mul_assoc, mul_right_comm, mul-le-mul_left, mul-le-mul_right, lt_of_mul-lt-mul_right, div-lt_iff_lt-mul, div-add-mod', mod-lt, suc-mul, mul-pos, pow-suc}
use native.Mathlib.Omega.{arith}
use lib.Pow.{pow_pos, pow_mono}
use lib.Ieee.{Float, binary64, round, size}
use lib.Ieee.Digits.{size-le}
use lib.Ieee.Fits.{round_is, nearest-le}
use lib.Ieee.Exact.{HasValue, units_val}
use lib.Ieee.Nearest.{closest, nearest-ge}
use lib.Ieee.Order.{drop, kept}
use Rattle.rounding.specs.Units.{units_in_one}
use Rattle.rounding.specs.Near.{Within}
use Rattle.rounding.proofs.Within.{widen}

-- the whole number nearest a / b
closest-within : (a b : ℕ) → 0 < b → Within b (closest a b * b) a
closest-within a b B =
    let q = a / b in
    let o = compare (a % b * 2) b in
    let e : q * b + a % b ≡ a = div-add-mod' a b in
    let l : a % b < b = mod-lt a B in
    let up : closest a b * b ≤ suc q * b = mul-le-mul_right b (nearest-le q o) in
    let dn : q * b ≤ closest a b * b = mul-le-mul_right b (nearest-ge q o) in
    let s : suc q * b ≡ q * b + b = suc-mul q b in
    record { over = omega arith; under = omega arith }

-- x has the sign s, and is a / c in size but for 2 ^ k units
pub record Rounded (x : Float) (s : Bool) (a c k : ℕ) : Type 0 where
  pub count : ℕ
  pub value : HasValue x s count units_in_one
  pub close : Within (2 ^ k * c) (count * c) (a * units_in_one)

less : (z k : ℕ) → z ≤ 53 + k → z - 53 ≤ k
less z k h = omega arith

pub round-near : (s : Bool) (a c k : ℕ) → 0 < c → k ≤ 2000 → a * units_in_one < 2 ^ (53 + k) * c → Rounded (round binary64 s a c) s a c k
round-near s a c k C K h =
    let n = a * units_in_one in
    let j = drop 53 n c in
    let J : j ≤ k = less (size (n / c)) k (size-le (n / c) (53 + k) ((div-lt_iff_lt-mul C).1 h)) in
    let v = kept 53 n c * 2 ^ j in
    let e : kept 53 n c * (c * 2 ^ j) ≡ v * c = sym (mul_assoc (kept 53 n c) c (2 ^ j)) ∙ mul_right_comm (kept 53 n c) c (2 ^ j) in
    let w : c * 2 ^ j ≤ 2 ^ k * c = le_trans (mul-le-mul_left c (pow_mono J)) (le_of_eq (mul_comm c (2 ^ k))) in
    let near : Within (2 ^ k * c) (v * c) n = widen w (subst (λ (z : ℕ). Within (c * 2 ^ j) z n) e (closest-within n (c * 2 ^ j) (mul-pos C (pow_pos j)))) in
    let top : v < 2 ^ (53 + k) + 2 ^ k = lt_of_mul-lt-mul_right c (lt_of_le_of_lt near.over (lt_of_lt_of_le (more n (2 ^ (53 + k) * c) (2 ^ k * c) h) (le_of_eq (sym (add-mul (2 ^ (53 + k)) (2 ^ k) c))))) in
    record {
      count = v;
      value = subst (λ (z : Float). HasValue z s v units_in_one) (sym (round_is binary64 s a c)) (units_val binary64 s (kept 53 n c) j (lt_of_lt_of_le top (le_trans (twice k) (pow_mono (far k K)))));
      close = near;
    }
  where
    more : (x y z : ℕ) → x < y → x + z < y + z
    more x y z h = omega arith

    far : (k : ℕ) → k ≤ 2000 → suc (53 + k) ≤ 2098
    far k h = omega arith

    twice : (k : ℕ) → 2 ^ (53 + k) + 2 ^ k ≤ 2 ^ suc (53 + k)
    twice k =
        let a : 2 ^ k ≤ 2 ^ (53 + k) = pow_mono (omega arith) in
        let b : 2 ^ suc (53 + k) ≡ 2 ^ (53 + k) * 2 = pow-suc 2 (53 + k) in
        omega arith
