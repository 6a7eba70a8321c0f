-- Whole numbers alone: what the parts of the polynomial are near to. u is the count of units in 1. Assumes nothing.
use Rattle.std.proofs.Common.{◌≡◌, ℕ, ◌+◌, ◌-◌, ◌*◌, ◌/◌, ◌<◌, ◌≤◌, sym, refl, ap, ◌∙◌, le_trans, le_of_eq, mul-le-mul_right, mul_assoc, mul_comm, add-mul, mul-le-mul_left, mul-pos, one-mul, mul-add, mul_right_comm, mul_left_comm, arith, lit<}
use Rattle.rounding.specs.Near.{Within}
use Rattle.rounding.proofs.Within.{then, widen, flip, times, cancel, plus, floor, recast}

-- With G = l * h / m and S = l * (u - G) / m, the series' value: t is near S + v, where t is near l / m, and v near l * l * h / (m * m)
pub parts : (u t v l m h i e : ℕ) → 0 < m → l ≤ m → l * h / m ≤ u → Within (i * m) (t * m) (l * u) → Within (e * (m * m)) (v * (m * m)) (l * l * h)
    → Within (i + e + 2) t (l * (u - l * h / m) / m + v)
parts u t v l m h i e M lm G ht hv =
    let g = l * h / m in
    let S = l * (u - g) / m in
    let mm = m * m in
    let one : Within (i * mm) (t * mm) (l * u * m) = recast (mul_assoc i m m) (mul_assoc t m m) refl (times m ht) in
    -- l * (u - g) * m + l * g * m is l * u * m
    let whole : l * u * m ≡ l * (u - g) * m + l * g * m = ap (λ (z : ℕ). z * m) (ap (λ (z : ℕ). l * z) (split u g G) ∙ mul-add l (u - g) g) ∙ add-mul (l * (u - g)) (l * g) m in
    let first : Within (1 * mm) (l * (u - g) * m) (S * mm) = recast (sym (one-mul mm)) refl (mul_assoc S m m) (times m (flip (floor (l * (u - g)) m M))) in
    let back : Within mm (l * g * m) (l * l * h) = widen (mul-le-mul_left m lm) (recast refl (mul_right_comm g m l ∙ ap (λ (z : ℕ). z * m) (mul_comm g l)) (mul_right_comm l h l) (times l (floor (l * h) m M))) in
    let second : Within (1 * mm + e * mm) (l * g * m) (v * mm) = then (recast (sym (one-mul mm)) refl refl back) (flip hv) in
    let all : Within (i * mm + (1 * mm + (1 * mm + e * mm))) (t * mm) (S * mm + v * mm) = then (recast refl refl whole one) (plus first second) in
    cancel mm (i + e + 2) t (S + v) (mul-pos M M) (recast total refl (sym (add-mul S v mm)) all)
  where
    split : (u g : ℕ) → g ≤ u → u ≡ u - g + g
    split u g h = omega arith

    total : i * (m * m) + (1 * (m * m) + (1 * (m * m) + e * (m * m))) ≡ (i + e + 2) * (m * m)
    total =
        let a : (i + e + 2) * (m * m) ≡ i * (m * m) + e * (m * m) + 2 * (m * m) = add-mul (i + e) 2 (m * m) ∙ ap (λ (z : ℕ). z + 2 * (m * m)) (add-mul i e (m * m)) in
        omega arith

-- a sixth of t, where t is near l / m and h near a sixth of u: near l * h / m
pub sixth : (u v t l m h i k w : ℕ) → l ≤ m → Within (k * 6) (v * 6) t → Within (i * m) (t * m) (l * u) → Within (256 * w) h (u / 6) → l * 256 ≤ m → Within ((k + i + w + 1) * m) (v * m) (l * h)
sixth u v t l m h i k w lm hv ht hh s =
    let one : Within (k * m * 6) (v * m * 6) (t * m) = recast (mul_right_comm k 6 m) (mul_right_comm v 6 m) refl (times m hv) in
    let two : Within (i * m * 6) (t * m) (u * l) = recast refl refl (mul_comm l u) (widen (six (i * m)) ht) in
    let three : Within (m * 6) (u * l) (u / 6 * (6 * l)) = recast (mul_comm 6 m) refl (mul_assoc (u / 6) 6 l) (widen (mul-le-mul_left 6 lm) (times l (flip (floor u 6 (lit< tt))))) in
    let four : Within (w * m * 6) (u / 6 * (6 * l)) (l * h * 6) = recast refl refl turn (widen (le_trans (le_of_eq gather) (le_trans (mul-le-mul_right (w * 6) s) (le_of_eq spread))) (times (6 * l) (flip hh))) in
    cancel 6 ((k + i + w + 1) * m) (v * m) (l * h) (lit< tt) (recast total refl refl (then (then (then one two) three) four))
  where
    six : (x : ℕ) → x ≤ x * 6
    six x = omega arith

    gather : 256 * w * (6 * l) ≡ l * 256 * (w * 6)
    gather = simp (mul_assoc, mul_comm, mul_left_comm)

    spread : m * (w * 6) ≡ w * m * 6
    spread = simp (mul_assoc, mul_comm, mul_left_comm)

    turn : h * (6 * l) ≡ l * h * 6
    turn = simp (mul_assoc, mul_comm, mul_left_comm)

    total : k * m * 6 + i * m * 6 + m * 6 + w * m * 6 ≡ (k + i + w + 1) * m * 6
    total =
        let a : (k + i + w + 1) * m ≡ k * m + i * m + w * m + 1 * m = add-mul (k + i + w) 1 m ∙ ap (λ (z : ℕ). z + 1 * m) (add-mul (k + i) w m ∙ ap (λ (z : ℕ). z + w * m) (add-mul k i m)) in
        omega arith

-- w near l * (l * u / m) / m is near l * l * u / (m * m)
pub square : (u w l m k : ℕ) → 0 < m → l ≤ m → Within (k * m) (w * m) (l * (l * u / m)) → Within ((k + 1) * (m * m)) (w * (m * m)) (l * l * u)
square u w l m k M lm h =
    let one : Within (k * (m * m)) (w * (m * m)) (l * u / m * m * l) = recast (mul_assoc k m m) (mul_assoc w m m) (ap (λ (z : ℕ). z * m) (mul_comm l (l * u / m)) ∙ mul_right_comm (l * u / m) l m) (times m h) in
    let two : Within (1 * (m * m)) (l * u / m * m * l) (l * l * u) = recast (sym (one-mul (m * m))) refl (mul_right_comm l u l) (widen (mul-le-mul_left m lm) (times l (floor (l * u) m M))) in
    recast (sym (add-mul k 1 (m * m))) refl refl (then one two)
