-- A small calculus of `Within d x y`: x and y differ by d at most. Assumes nothing.
use mathlib.Core.Path.{◌≡◌, refl, sym, ap, ◌∙◌}
use Prim.Native.Nat.{ℕ, suc, ◌+◌, ◌-◌, ◌*◌, ◌/◌, ◌%◌, ◌≤◌, ◌<◌}
use native.Mathlib.Nat.{le_trans, le_of_eq, le_of_suc-le-suc, one-mul, mul-add, add-mul, suc-mul, mul_comm, mul_assoc, mul-le-mul_left, mul-le-mul_right, le_of_mul-le-mul_right, div-lt_iff_lt-mul, div-mul-le_self, div-add-mod', mod-lt}
use native.Mathlib.Omega.{arith}
use Rattle.rounding.specs.Near.{Within}

pub same : (x : ℕ) → Within 0 x x
same x = record { over = omega arith; under = omega arith }

pub of_eq : {x y : ℕ} → x ≡ y → Within 0 x y
of_eq {x} {y} e = record { over = omega arith; under = omega arith }

pub flip : {d x y : ℕ} → Within d x y → Within d y x
flip h = record { over = h.under; under = h.over }

pub then : {d e x y z : ℕ} → Within d x y → Within e y z → Within (d + e) x z
then h k = record { over = omega (arith, h.over, k.over); under = omega (arith, h.under, k.under) }

pub widen : {d e x y : ℕ} → d ≤ e → Within d x y → Within e x y
widen l h = record { over = omega (arith, h.over); under = omega (arith, h.under) }

pub recast : {d d' x x' y y' : ℕ} → d ≡ d' → x ≡ x' → y ≡ y' → Within d x y → Within d' x' y'
recast p q r h = record { over = omega (arith, h.over); under = omega (arith, h.under) }

-- ---- sums, differences, products
pub plus : {d e x y u v : ℕ} → Within d x y → Within e u v → Within (d + e) (x + u) (y + v)
plus h k = record { over = omega (arith, h.over, k.over); under = omega (arith, h.under, k.under) }

pub minus : {d e x y u v : ℕ} → Within d x y → Within e u v → Within (d + e) (x - u) (y - v)
minus h k = record { over = omega (arith, h.over, k.under); under = omega (arith, h.under, k.over) }

pub taken-off : (c : ℕ) {d x y : ℕ} → Within d x y → Within d (c - x) (c - y)
taken-off c h = record { over = omega (arith, h.under); under = omega (arith, h.over) }

pub less : (a b d : ℕ) → b ≤ d → Within d (a - b) a
less a b d h = record { over = omega arith; under = omega arith }

pub times : (c : ℕ) {d x y : ℕ} → Within d x y → Within (d * c) (x * c) (y * c)
times c {d} {x} {y} h = record {
  over = le_trans (mul-le-mul_right c h.over) (le_of_eq (add-mul y d c));
  under = le_trans (mul-le-mul_right c h.under) (le_of_eq (add-mul x d c));
}

pub cancel : (c d x y : ℕ) → 0 < c → Within (d * c) (x * c) (y * c) → Within d x y
cancel c d x y C h = record {
  over = le_of_mul-le-mul_right (le_trans h.over (le_of_eq (sym (add-mul y d c)))) C;
  under = le_of_mul-le-mul_right (le_trans h.under (le_of_eq (sym (add-mul x d c)))) C;
}

-- ---- quotients
-- a quotient, times its divisor
pub floor : (y c : ℕ) → 0 < c → Within c (y / c * c) y
floor y c C =
    let e : y / c * c + y % c ≡ y = div-add-mod' y c in
    let l : y % c < c = mod-lt y C in
    record { over = omega arith; under = omega arith }

pub to-floor : (d x y c : ℕ) → 0 < c → Within (d * c) (x * c) y → Within (d + 1) x (y / c)
to-floor d x y c C h =
    let k : Within (d * c + c) (x * c) (y / c * c) = then h (flip (floor y c C)) in
    cancel c (d + 1) x (y / c) C (recast (sym (add-mul d 1 c ∙ ap (λ (z : ℕ). d * c + z) (one-mul c))) refl refl k)

pub quotient_le : (x m q : ℕ) → 0 < m → x ≤ q * m → x / m ≤ q
quotient_le x m q M h = le_of_mul-le-mul_right (le_trans (div-mul-le_self x m) h) M

-- a change of g * e in a factor, where the other is a / b, at most 1 / g: a change of e at most in the product rounded down
scaled-le : (g a b x y e : ℕ) → 0 < b → a * g ≤ b → x ≤ y + g * e → a * x / b ≤ a * y / b + e
scaled-le g a b x y e B s h =
    let q = a * y / b in
    let one : a * x ≤ a * (y + g * e) = mul-le-mul_left a h in
    let two : a * (y + g * e) ≡ a * y + a * g * e = mul-add a y (g * e) ∙ ap (λ (z : ℕ). a * y + z) (sym (mul_assoc a g e)) in
    let three : a * g * e ≤ b * e = mul-le-mul_right e s in
    let four : q * b + a * y % b ≡ a * y = div-add-mod' (a * y) b in
    let five : a * y % b < b = mod-lt (a * y) B in
    let six : suc (q + e) * b ≡ q * b + b * e + b = suc-mul (q + e) b ∙ ap (λ (z : ℕ). z + b) (add-mul q e b ∙ ap (λ (z : ℕ). q * b + z) (mul_comm e b)) in
    let seven : a * x < suc (q + e) * b = omega arith in
    le_of_suc-le-suc ((div-lt_iff_lt-mul B).1 seven)

pub scaled : (g a b : ℕ) {x y : ℕ} (e : ℕ) → 0 < b → a * g ≤ b → Within (g * e) x y → Within e (a * x / b) (a * y / b)
scaled g a b {x} {y} e B s h = record { over = scaled-le g a b x y e B s h.over; under = scaled-le g a b y x e B s h.under }
