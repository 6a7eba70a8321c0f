-- Products and differences of numbers that are not negative, in units. Assumes nothing.
use mathlib.Core.Path.{◌≡◌, refl, sym, ap, ◌∙◌, subst}
use mathlib.Core.Bool.{Bool, true, false}
use Prim.Native.Nat.{ℕ, ◌+◌, ◌-◌, ◌*◌, ◌^◌, ◌≤◌, ◌<◌}
use native.Mathlib.Nat.{le_refl, le_trans, le_of_eq, lt_of_le_of_lt, add-mul, mul_comm, mul_assoc, mul_left_comm, mul_right_comm, mul-le-mul_left, mul-le-mul_right, mul-lt-mul_of_pos_right, le_of_mul-le-mul_right, mul-pos, add-le-add, sub-le}
use native.Mathlib.Omega.{arith}
use lib.Pow.{pow_pos}
use lib.Ieee.{Float, binary64, round, sub, mul}
use lib.Ieee.Exact.{HasValue}
use Rattle.rounding.specs.Units.{units_in_one}
use Rattle.rounding.specs.Near.{Within, plus_part, minus_part}
use Rattle.rounding.proofs.Within.{then, widen, times, cancel, recast}
use Rattle.rounding.proofs.Rounded.{round-near}
use Rattle.rounding.proofs.Operations.{Sum, mul_at, sub_at}

-- a number of x units times one of y, y at most 1
pub record Product (z : Float) (x y k : ℕ) : Type 0 where
  pub count : ℕ
  pub value : HasValue z false count units_in_one
  pub close : Within (2 ^ k * units_in_one) (count * units_in_one) (x * y)
  pub most : count ≤ x + 2 ^ k

pub multiply : (t y : Float) (T Y k : ℕ) → HasValue t false T units_in_one → HasValue y false Y units_in_one → k ≤ 2000 → T < 2 ^ (53 + k) → Y ≤ units_in_one → Product (mul binary64 t y) T Y k
multiply t y T Y k tv yv K h s =
    let under : T * Y * units_in_one < 2 ^ (53 + k) * (units_in_one * units_in_one) = lt_of_le_of_lt (le_trans (mul-le-mul_right units_in_one (mul-le-mul_left T s)) (le_of_eq (mul_assoc T units_in_one units_in_one))) (mul-lt-mul_of_pos_right h (mul-pos (pow_pos 1074) (pow_pos 1074))) in
    let r = round-near false (T * Y) (units_in_one * units_in_one) k (mul-pos (pow_pos 1074) (pow_pos 1074)) K under in
    let near : Within (2 ^ k * units_in_one) (r.count * units_in_one) (T * Y) = cancel units_in_one (2 ^ k * units_in_one) (r.count * units_in_one) (T * Y) (pow_pos 1074) (recast (sym (mul_assoc (2 ^ k) units_in_one units_in_one)) (sym (mul_assoc r.count units_in_one units_in_one)) refl r.close) in
    record {
      count = r.count;
      value = subst (λ (z : Float). HasValue z false r.count units_in_one) (sym (mul_at t y false false T units_in_one Y units_in_one (pow_pos 1074) (pow_pos 1074) tv yv)) r.value;
      close = near;
      most = le_of_mul-le-mul_right (le_trans near.over (le_trans (add-le-add (mul-le-mul_left T s) (le_refl (2 ^ k * units_in_one))) (le_of_eq (sym (add-mul T (2 ^ k) units_in_one))))) (pow_pos 1074);
    }

-- v, near x * y, where x is near l / m and y near h, each in units of which u are 1: near l * h / m
pub product : (u v x y l m h i g e k : ℕ) → 0 < u → Within (k * u) (v * u) (x * y) → Within (i * m) (x * m) (l * u) → Within (g * e) y h → l * g ≤ m → y ≤ u → Within ((k + i + e) * m) (v * m) (l * h)
product u v x y l m h i g e k up hv hx hy s b =
    let one : Within (k * m * u) (v * m * u) (x * y * m) = recast (mul_right_comm k u m) (mul_right_comm v u m) refl (times m hv) in
    let two : Within (i * m * u) (x * y * m) (y * (l * u)) = recast refl (mul_right_comm x m y) (mul_comm (l * u) y) (widen (mul-le-mul_left (i * m) b) (times y hx)) in
    let three : Within (e * m * u) (y * (l * u)) (l * h * u) = recast refl refl turn (widen (le_trans (le_of_eq gather) (le_trans (mul-le-mul_right (e * u) s) (le_of_eq spread))) (times (l * u) hy)) in
    cancel u ((k + i + e) * m) (v * m) (l * h) up (recast total refl refl (then (then one two) three))
  where
    gather : g * e * (l * u) ≡ l * g * (e * u)
    gather = simp (mul_assoc, mul_comm, mul_left_comm)

    spread : m * (e * u) ≡ e * m * u
    spread = simp (mul_assoc, mul_comm, mul_left_comm)

    turn : h * (l * u) ≡ l * h * u
    turn = simp (mul_assoc, mul_comm, mul_left_comm)

    total : k * m * u + i * m * u + e * m * u ≡ (k + i + e) * m * u
    total = sym (ap (λ (z : ℕ). z * u) (add-mul (k + i) e m ∙ ap (λ (z : ℕ). z + e * m) (add-mul k i m)) ∙ add-mul (k * m + i * m) (e * m) u ∙ ap (λ (z : ℕ). z + e * m * u) (add-mul (k * m) (i * m) u))

-- a - b units, for b < a
pub record Difference (z : Float) (a b k : ℕ) : Type 0 where
  pub count : ℕ
  pub value : HasValue z false count units_in_one
  pub close : Within (2 ^ k) count (a - b)

pub subtract : (x y : Float) (a b k : ℕ) → HasValue x false a units_in_one → HasValue y false b units_in_one → k ≤ 2000 → b < a → a < 2 ^ (53 + k) → Difference (sub binary64 x y) a b k
subtract x y a b k xv yv K h s = go (sub_at x y false false a b units_in_one (pow_pos 1074) xv yv)
  where
    of : (g : Bool) (v : ℕ) → plus_part g v + 0 + b ≡ minus_part g v + a + 0 → (g ≡ false) × (v ≡ a - b)
    of false v e = (refl, omega arith)
    of true v e = absurd (omega arith)

    go : Sum (sub binary64 x y) false a true b units_in_one → Difference (sub binary64 x y) a b k
    go S =
        let w = of S.sign S.count S.total in
        let r = round-near false (a - b) units_in_one k (pow_pos 1074) K (mul-lt-mul_of_pos_right (lt_of_le_of_lt (sub-le a b) s) (pow_pos 1074)) in
        record {
          count = r.count;
          value = subst (λ (z : Float). HasValue z false r.count units_in_one) (sym (S.is ∙ ap (λ (g : Bool). round binary64 g S.count units_in_one) w.0 ∙ ap (λ (n : ℕ). round binary64 false n units_in_one) w.1)) r.value;
          close = cancel units_in_one (2 ^ k) r.count (a - b) (pow_pos 1074) r.close;
        }
