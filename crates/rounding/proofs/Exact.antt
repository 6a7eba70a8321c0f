-- Sums and products of whole numbers, up to 2 ^ 53 in size, and their quotients by a power of two, are exact. Assumes nothing.
use mathlib.Core.Path.{◌≡◌, refl, sym, ap, ◌∙◌, subst}
use mathlib.Core.Bool.{Bool, true, false, not}
use Prim.Native.Nat.{ℕ, ◌+◌, ◌*◌, ◌^◌, ◌≤◌, ◌<◌}
use native.Mathlib.Nat.{le_trans, le_of_eq, le-add_right, lt_of_lt_of_le, add-mul, mul_assoc, mul-one, zero-add}
use native.Mathlib.Omega.{arith}
use lib.Dec.{lit<}
use lib.Pow.{pow-add, pow_pos, shl_lt, pow_mono}
use lib.Ieee.{Float, binary64, round, add, sub, mul, div, neg, of_int, unlike}
use lib.Ieee.Exact.{HasValue, round_exact}
use lib.Ieee.Back.{round_whole}
use Rattle.rounding.specs.Units.{units_in_one, whole}
use Rattle.rounding.specs.Near.{Near, Is, plus_part, minus_part}
use Rattle.rounding.proofs.Within.{of_eq}
use Rattle.rounding.proofs.Operations.{mul_at, div-at, add_at, neg_value, rescale}

pub whole-value : (n : ℕ) → n ≤ 2 ^ 53 → HasValue (whole n) false n 1
unfolding of_int
whole-value n h = round_whole binary64 false n h

pub is_whole : (n : ℕ) → n ≤ 2 ^ 53 → Is (whole n) n 0
is_whole n h = record { sign = false; count = n; value = whole-value n h; exact = omega arith }

pub is-shift : {x : Float} {p n p' n' : ℕ} → Is x p n → p + n' ≡ p' + n → Is x p' n'
is-shift {p = p} {n = n} {p' = p'} {n' = n'} X e = record { sign = X.sign; count = X.count; value = X.value; exact = go (plus_part X.sign X.count) (minus_part X.sign X.count) X.exact }
  where
    go : (A B : ℕ) → A + n ≡ B + p → A + n' ≡ B + p'
    go A B h = omega arith

-- the size of a difference
size-le : (s : Bool) (u p n b : ℕ) → plus_part s u + n ≡ minus_part s u + p → p ≤ n + b → n ≤ p + b → u ≤ b
size-le false u p n b e h k = omega arith
size-le true u p n b e h k = omega arith

scaled : (s : Bool) (u p n c : ℕ) → plus_part s u + n ≡ minus_part s u + p → plus_part s (u * c) + n * c ≡ minus_part s (u * c) + p * c
scaled false u p n c e = sym (add-mul u n c) ∙ ap (λ (z : ℕ). z * c) (e ∙ zero-add p) ∙ sym (zero-add (p * c))
scaled true u p n c e = zero-add (n * c) ∙ ap (λ (z : ℕ). z * c) (sym (zero-add n) ∙ e) ∙ add-mul u p c

unlike-false : (s : Bool) → unlike s false ≡ s
unlike-false true = refl
unlike-false false = refl

pub is_sum : {x y : Float} {p n p' n' : ℕ} → Is x p n → Is y p' n' → p + p' ≤ n + n' + 2 ^ 53 → n + n' ≤ p + p' + 2 ^ 53 → Is (add binary64 x y) (p + p') (n + n')
is_sum {x} {y} {p} {n} {p'} {n'} X Y u l =
    let S = add_at x y X.sign Y.sign X.count Y.count 1 (lit< tt) X.value Y.value in
    let e : plus_part S.sign S.count + (n + n') ≡ minus_part S.sign S.count + (p + p') =
    join (plus_part S.sign S.count) (minus_part S.sign S.count) (plus_part X.sign X.count) (minus_part X.sign X.count) (plus_part Y.sign Y.count) (minus_part Y.sign Y.count) S.total X.exact Y.exact in
    record {
      sign = S.sign;
      count = S.count;
      value = subst (λ (w : Float). HasValue w S.sign S.count 1) (sym S.is) (round_whole binary64 S.sign S.count (size-le S.sign S.count (p + p') (n + n') (2 ^ 53) e u l));
      exact = e;
    }
  where
    join : (G H P N P' N' : ℕ) → G + N + N' ≡ H + P + P' → P + n ≡ N + p → P' + n' ≡ N' + p' → G + (n + n') ≡ H + (p + p')
    join G H P N P' N' a b c = omega arith

is-neg : {x : Float} {p n : ℕ} → Is x p n → Is (neg x) n p
is-neg {x} {p} {n} X = record { sign = not X.sign; count = X.count; value = neg_value x X.sign X.count 1 X.value; exact = go X.sign X.count X.exact }
  where
    go : (s : Bool) (v : ℕ) → plus_part s v + n ≡ minus_part s v + p → plus_part (not s) v + p ≡ minus_part (not s) v + n
    go false v e = omega arith
    go true v e = omega arith

pub is-difference : {x y : Float} {p n p' n' : ℕ} → Is x p n → Is y p' n' → p + n' ≤ n + p' + 2 ^ 53 → n + p' ≤ p + n' + 2 ^ 53 → Is (sub binary64 x y) (p + n') (n + p')
unfolding sub
is-difference X Y u l = is_sum X (is-neg Y) u l

pub is-product : {x : Float} {p n : ℕ} (c : ℕ) → Is x p n → c ≤ 2 ^ 53 → p * c ≤ n * c + 2 ^ 53 → n * c ≤ p * c + 2 ^ 53 → Is (mul binary64 x (whole c)) (p * c) (n * c)
is-product {x} {p} {n} c X C u l =
    let s = X.sign in
    let v = X.count * c in
    let e = scaled s X.count p n c X.exact in
    record {
      sign = s;
      count = v;
      value = subst (λ (z : Float). HasValue z s v 1) (sym (mul_at x (whole c) s false X.count 1 c 1 (lit< tt) (lit< tt) X.value (whole-value c C) ∙ ap (λ (z : Bool). round binary64 z v 1) (unlike-false s)))
          (round_whole binary64 s v (size-le s v (p * c) (n * c) (2 ^ 53) e u l));
      exact = e;
    }

-- over a number y that is 2 ^ k
pub is-quotient : {x : Float} {p n : ℕ} (y : Float) (k j : ℕ) → Is x p n → HasValue y false (2 ^ k) 1 → j + k ≡ 1074 → p < n + 2 ^ 53 → n < p + 2 ^ 53 → Near 0 (div binary64 x y) (p * 2 ^ j) (n * 2 ^ j)
is-quotient {x} {p} {n} y k j X Y jk u l =
    let g = X.sign in
    let w = X.count in
    let small : w < 2 ^ 53 = size-lt g w X.exact in
    let eq : w * units_in_one ≡ w * 2 ^ j * 2 ^ k = ap (λ (z : ℕ). w * z) (ap (λ (z : ℕ). 2 ^ z) (sym jk) ∙ pow-add 2 j k) ∙ sym (mul_assoc w (2 ^ j) (2 ^ k)) in
    let jlt : j ≤ 1074 = le_trans (le-add_right j k) (le_of_eq jk) in
    let far : 53 + j ≤ 2098 = omega arith in
    let rounded : HasValue (round binary64 g w (2 ^ k)) g w (2 ^ k) = round_exact binary64 g w (2 ^ k) w j (pow_pos k) small (lt_of_lt_of_le (shl_lt 53 j small) (pow_mono far)) eq in
    let is : div binary64 x y ≡ round binary64 g w (2 ^ k) =
    div-at x y g false w 1 (2 ^ k) 1 (lit< tt) (lit< tt) (pow_pos k) X.value Y
    ∙ ap (λ (z : Bool). round binary64 z (w * 1) (2 ^ k * 1)) (unlike-false g) ∙ ap (λ (z : ℕ). round binary64 g z (2 ^ k * 1)) (mul-one w) ∙ ap (λ (z : ℕ). round binary64 g w z) (mul-one (2 ^ k)) in
    record {
      sign = g;
      count = w * 2 ^ j;
      value = rescale (div binary64 x y) g w (2 ^ k) (w * 2 ^ j) units_in_one (pow_pos k) eq (subst (λ (z : Float). HasValue z g w (2 ^ k)) (sym is) rounded);
      close = of_eq (scaled g w p n (2 ^ j) X.exact);
    }
  where
    size-lt : (s : Bool) (v : ℕ) → plus_part s v + n ≡ minus_part s v + p → v < 2 ^ 53
    size-lt false v e = omega arith
    size-lt true v e = omega arith
