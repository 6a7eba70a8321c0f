-- The logarithm in steps is near what the series gives, at every number of terms from 12 on. Assumes nothing.
use Rattle.std.proofs.Common.{◌≡◌, ℕ, suc, ◌+◌, ◌-◌, ◌*◌, ◌/◌, ◌%◌, ◌^◌, ◌<◌, ◌≤◌, false, sym, refl, ap, ◌∙◌, subst, le_trans, le_of_eq, lt_of_lt_of_le, lt_of_le_of_lt, mul-le-mul_right, mul_assoc, mul_comm, add-mul, mul-le-mul_left, mul-lt-mul_of_pos_right, div-add-mod', mul-one, mul-add, arith, lit<, lit≤, pow_pos}
use lib.Ieee.{Float, binary64, round, of_int}
use lib.Ieee.Exact.{HasValue}
use lib.Ieee.Back.{round_whole}
use Rattle.numbers.specs.Number.{◌+ᶠ◌, ◌-ᶠ◌, ◌*ᶠ◌, ◌/ᶠ◌}
use Rattle.rounding.specs.Units.{units_in_one, whole}
use Rattle.rounding.specs.Near.{Within, Near}
use Rattle.rounding.proofs.Within.{flip, times, plus, recast, same}
use Rattle.rounding.proofs.Rounded.{Rounded, round-near}
use Rattle.rounding.proofs.Operations.{mul_at, div-at}
use Rattle.rounding.proofs.Sums.{add-near, loosen, shift}
use Rattle.rounding.proofs.Exact.{whole-value, is_whole, is-shift, is_sum, is-difference, is-product, is-quotient}
use Rattle.logarithm.specs.Series.{ln1p, ln_entry, entry_of}
use Rattle.logarithm.specs.Steps.{poly, part, ln_of, quotient_of, remainder_of, quotient_f, remainder_f}
use Rattle.logarithm.proofs.Terms.{ln1p-le}
use Rattle.logarithm.proofs.Table.{entry-near, last-quotient, last-remainder, quotient-lt, remainder-lt}
use Rattle.logarithm.proofs.Poly.{poly-near}

-- ---- t
abbrev t_of : ℕ → ℕ → Float
t_of l c = whole l /ᶠ (whole c *ᶠ whole (2 ^ 44))

t-near : (l c : ℕ) → l < 2 ^ 44 → 256 ≤ c → c < 512 → Rounded (t_of l c) false l (c * 2 ^ 44) 1013
t-near l c L low high =
    let m = c * 2 ^ 44 in
    let d = whole c *ᶠ whole (2 ^ 44) in
    let M : 0 < m = omega arith in
    let dv : HasValue d false m 1 =
    subst (λ (z : Float). HasValue z false m 1) (sym (mul_at (whole c) (whole (2 ^ 44)) false false c 1 (2 ^ 44) 1 (lit< tt) (lit< tt) (whole-value c (omega arith)) (whole-value (2 ^ 44) (lit≤ tt)))) (round_whole binary64 false m (omega arith)) in
    let is : t_of l c ≡ round binary64 false l m =
    div-at (whole l) d false false l 1 m 1 (lit< tt) (lit< tt) M (whole-value l (omega arith)) dv
    ∙ ap (λ (z : ℕ). round binary64 false z (m * 1)) (mul-one l) ∙ ap (λ (z : ℕ). round binary64 false l z) (mul-one m) in
    let lt : l * 256 < m = omega arith in
    let under : l * units_in_one < 2 ^ 1066 * m = lt_of_le_of_lt (le_of_eq (sym (mul_assoc l 256 (2 ^ 1066)))) (lt_of_lt_of_le (mul-lt-mul_of_pos_right lt (pow_pos 1066)) (le_of_eq (mul_comm m (2 ^ 1066)))) in
    subst (λ (z : Float). Rounded z false l m 1013) (sym is) (round-near false l m 1013 M (lit≤ tt) under)

-- ---- hi and lo are exact
module _ (n two entry : ℕ) (N : n ≤ 2097) (small : two ≤ 6096987078286) (less : entry ≤ 6096987078286) where
  part-near : (k j : ℕ) → j + k ≡ 1074 → HasValue (whole (2 ^ k)) false (2 ^ k) 1 → Near 0 (part (whole n -ᶠ whole 1074) (whole two) (whole entry) k) ((n * two + entry) * 2 ^ j) (1074 * two * 2 ^ j)
  unfolding part
  part-near k j jk kv =
      let a : n * two ≤ 2097 * two = mul-le-mul_right two N in
      let e = is-shift (is-difference (is_whole n (omega arith)) (is_whole 1074 (lit≤ tt)) (omega arith) (omega arith)) (zeros n 1074) in
      let f = is-product two e (omega arith) (omega arith) (omega arith) in
      let g = is-shift (is_sum f (is_whole entry (omega arith)) (omega arith) (omega arith)) (zero-after (n * two + entry) (1074 * two)) in
      is-quotient (whole (2 ^ k)) k j g kv jk (omega arith) (omega arith)
    where
      zeros : (a b : ℕ) → a + 0 + b ≡ a + (0 + b)
      zeros a b = omega arith

      zero-after : (a b : ℕ) → a + b ≡ a + (b + 0)
      zero-after a b = omega arith

-- ---- quotients and remainders, gathered into entries
gathered-two : (n Q R f z : ℕ) {W : ℕ} → Q * f + R ≡ W → n * Q * (f * z) + (n * R * z + 0) ≡ n * (W * z)
gathered-two n Q R f z e =
    let a : n * Q * (f * z) ≡ n * (Q * f * z) = mul_assoc n Q (f * z) ∙ ap (λ (x : ℕ). n * x) (sym (mul_assoc Q f z)) in
    let b : n * R * z ≡ n * (R * z) = mul_assoc n R z in
    let c : n * (Q * f * z) + n * (R * z) ≡ n * ((Q * f + R) * z) = sym (mul-add n (Q * f * z) (R * z)) ∙ ap (λ (x : ℕ). n * x) (sym (add-mul (Q * f) R z)) in
    omega arith ∙ c ∙ ap (λ (x : ℕ). n * (x * z)) e

gathered : (n Q q R r f z s : ℕ) {W w : ℕ} → Q * f + R ≡ W → q * f + r ≡ w → (n * Q + q) * (f * z) + ((n * R + r) * z + s) ≡ n * (W * z) + w * z + s
gathered n Q q R r f z s {W} {w} e g =
    let a : (n * Q + q) * (f * z) ≡ n * Q * (f * z) + q * f * z = add-mul (n * Q) q (f * z) ∙ ap (λ (x : ℕ). n * Q * (f * z) + x) (sym (mul_assoc q f z)) in
    let b : (n * R + r) * z ≡ n * R * z + r * z = add-mul (n * R) r z in
    let c : w * z ≡ q * f * z + r * z = ap (λ (x : ℕ). x * z) (sym g) ∙ add-mul (q * f) r z in
    let d : n * Q * (f * z) + (n * R * z + 0) ≡ n * (W * z) = gathered-two n Q R f z e in
    omega arith

-- ---- all of it, with the table's numbers in place of the series'. The sum of hi and the rest has 2 ^ (53 + k) units at most, which is b * 2 ^ 1031.
module _ (m n k b : ℕ) (low : 2 ^ 52 ≤ m) (high : m < 2 ^ 53) (N : n ≤ 2097) (K : k ≤ 2000) (B : 2 ^ (53 + k) ≡ b * 2 ^ 1031)
    (over : n * 6096987078286 + quotient_of (m / 2 ^ 44 - 256) + 137438953472 < 1074 * 6096987078286 + b)
    (under : 1074 * 6096987078286 + 137438953472 < n * 6096987078286 + quotient_of (m / 2 ^ 44 - 256) + b) where
  abbrev c : ℕ
  c = m / 2 ^ 44

  abbrev j : ℕ
  j = m / 2 ^ 44 - 256

  abbrev l : ℕ
  l = m % 2 ^ 44

  abbrev Q : ℕ
  Q = quotient_of 256

  abbrev R : ℕ
  R = remainder_of 256

  j-lt : j < 257
  j-lt = omega arith

  abbrev e : Float
  e = whole n -ᶠ whole 1074

  hi-near : Near 0 (part e (quotient_f 256) (quotient_f j) 43) ((n * Q + quotient_of j) * 2 ^ 1031) (1074 * Q * 2 ^ 1031)
  hi-near = part-near n Q (quotient_of j) N (le_of_eq last-quotient) (omega (arith, quotient-lt j j-lt)) 43 1031 refl (whole-value (2 ^ 43) (lit≤ tt))

  lo-near : Near 0 (part e (remainder_f 256) (remainder_f j) 70) ((n * R + remainder_of j) * 2 ^ 1004) (1074 * R * 2 ^ 1004)
  unfolding of_int
  lo-near = part-near n R (remainder_of j) N (le_trans (le_of_eq last-remainder) (lit≤ tt)) (omega (arith, remainder-lt j)) 70 1004 refl (refl, refl)

  lo-plus : (n * R + remainder_of j) * 2 ^ 1004 ≤ 2 ^ 1043
  lo-plus = mul-le-mul_right (2 ^ 1004) (subst (λ (z : ℕ). n * z + remainder_of j ≤ 2 ^ 39) (sym last-remainder) small)
    where
      small : n * 64908018 + remainder_of j ≤ 2 ^ 39
      small = omega (arith, remainder-lt j)

  lo-minus : 1074 * R * 2 ^ 1004 ≤ 2 ^ 1043
  lo-minus = subst (λ (z : ℕ). 1074 * z * 2 ^ 1004 ≤ 2 ^ 1043) (sym last-remainder) (lit≤ tt)

  steps-near : (r : ℕ) → Near (0 + (0 + 2 ^ 1023 + 2 ^ 1021) + 2 ^ k) (ln_of quotient_f remainder_f m n)
      ((n * Q + quotient_of j) * 2 ^ 1031 + ((n * R + remainder_of j) * 2 ^ 1004 + ln1p (suc (suc (suc (suc (suc (suc r)))))) l (c * 2 ^ 44)))
      (1074 * Q * 2 ^ 1031 + (1074 * R * 2 ^ 1004 + 0))
  unfolding ln_of
  steps-near r =
      let d = c * 2 ^ 44 in
      let S = ln1p (suc (suc (suc (suc (suc (suc r)))))) l d in
      let D : 0 < d = omega arith in
      let s : l * 256 ≤ d = omega arith in
      let t = t-near l c (omega arith) (omega arith) (omega arith) in
      let p = poly-near (t_of l c) t.count l d D s t.value t.close r in
      let ss = ln1p-le (suc (suc (suc (suc (suc (suc r)))))) l d D s in
      let y = add-near (part e (remainder_f 256) (remainder_f j) 70) (poly (t_of l c)) 0 (2 ^ 1023) ((n * R + remainder_of j) * 2 ^ 1004) (1074 * R * 2 ^ 1004) S 0 1021 lo-near p (lit≤ tt)
      (sum-a ((n * R + remainder_of j) * 2 ^ 1004) (1074 * R * 2 ^ 1004) S (2 ^ 1023) (2 ^ 1043) (2 ^ 1066) (2 ^ 1074) lo-plus ss (lit< tt))
      (sum-b ((n * R + remainder_of j) * 2 ^ 1004) (1074 * R * 2 ^ 1004) S (2 ^ 1023) (2 ^ 1043) (2 ^ 1074) lo-minus (lit< tt)) in
      let big : (n * Q + quotient_of j + 137438953472) * 2 ^ 1031 < (1074 * Q + b) * 2 ^ 1031 = mul-lt-mul_of_pos_right (subst (λ (z : ℕ). n * z + quotient_of j + 137438953472 < 1074 * z + b) (sym last-quotient) over) (pow_pos 1031) in
      let big' : (1074 * Q + 137438953472) * 2 ^ 1031 < (n * Q + quotient_of j + b) * 2 ^ 1031 = mul-lt-mul_of_pos_right (subst (λ (z : ℕ). 1074 * z + 137438953472 < n * z + quotient_of j + b) (sym last-quotient) under) (pow_pos 1031) in
      add-near (part e (quotient_f 256) (quotient_f j) 43) (part e (remainder_f 256) (remainder_f j) 70 +ᶠ poly (t_of l c)) 0 (0 + 2 ^ 1023 + 2 ^ 1021) ((n * Q + quotient_of j) * 2 ^ 1031) (1074 * Q * 2 ^ 1031) ((n * R + remainder_of j) * 2 ^ 1004 + S) (1074 * R * 2 ^ 1004 + 0) k hi-near y K
      (all-a ((n * Q + quotient_of j) * 2 ^ 1031) ((n * R + remainder_of j) * 2 ^ 1004) S (1074 * Q * 2 ^ 1031) (1074 * R * 2 ^ 1004) (2 ^ 1023) (2 ^ 1021) (2 ^ 1043) (2 ^ 1066) (137438953472 * 2 ^ 1031) (b * 2 ^ 1031) (2 ^ (53 + k)) lo-plus ss (lit≤ tt) B
      (lt_of_le_of_lt (le_of_eq (sym (add-mul (n * Q + quotient_of j) 137438953472 (2 ^ 1031)))) (lt_of_lt_of_le big (le_of_eq (add-mul (1074 * Q) b (2 ^ 1031))))))
      (all-b ((n * Q + quotient_of j) * 2 ^ 1031) ((n * R + remainder_of j) * 2 ^ 1004) S (1074 * Q * 2 ^ 1031) (1074 * R * 2 ^ 1004) (2 ^ 1023) (2 ^ 1021) (2 ^ 1043) (2 ^ 1066) (137438953472 * 2 ^ 1031) (b * 2 ^ 1031) (2 ^ (53 + k)) lo-minus (lit≤ tt) B
      (lt_of_le_of_lt (le_of_eq (sym (add-mul (1074 * Q) 137438953472 (2 ^ 1031)))) (lt_of_lt_of_le big' (le_of_eq (add-mul (n * Q + quotient_of j) b (2 ^ 1031))))))
    where
      sum-a : (p n s d x y B : ℕ) → p ≤ x → s ≤ y → x + y + d < B → p + s + 0 + d < n + 0 + B
      sum-a p n s d x y B a b c = omega arith

      sum-b : (p n s d x B : ℕ) → n ≤ x → x + d < B → n + 0 + 0 + d < p + s + B
      sum-b p n s d x B a c = omega arith

      all-a : (P p s N n d f x y z B C : ℕ) → p ≤ x → s ≤ y → x + y + d + f ≤ z → C ≡ B → P + z < N + B → P + (p + s) + 0 + (0 + d + f) < N + (n + 0) + C
      all-a P p s N n d f x y z B C a b c e h = omega arith

      all-b : (P p s N n d f x y z B C : ℕ) → n ≤ x → x + y + d + f ≤ z → C ≡ B → N + z < P + B → N + (n + 0) + 0 + (0 + d + f) < P + (p + s) + C
      all-b P p s N n d f x y z B C a c e h = omega arith

  -- ---- the series' numbers in place of the table's
  pub series-near : (r : ℕ) → Near (2 ^ k + 2 ^ 1024) (ln_of quotient_f remainder_f m n) (n * ln_entry (12 + r) 256 + ln_entry (12 + r) j + ln1p (12 + r) l (c * 2 ^ 44)) (1074 * ln_entry (12 + r) 256)
  series-near r =
      let S = ln1p (12 + r) l (c * 2 ^ 44) in
      let t : suc (suc (suc (suc (suc (suc (6 + r)))))) ≡ 12 + r = omega arith in
      let base = subst (λ (z : ℕ). Near (0 + (0 + 2 ^ 1023 + 2 ^ 1021) + 2 ^ k) (ln_of quotient_f remainder_f m n) ((n * Q + quotient_of j) * 2 ^ 1031 + ((n * R + remainder_of j) * 2 ^ 1004 + ln1p z l (c * 2 ^ 44))) (1074 * Q * 2 ^ 1031 + (1074 * R * 2 ^ 1004 + 0))) t (steps-near (6 + r)) in
      let w : ℕ = 2 ^ 980 + 2 ^ 1003 in
      let two = entry-near r 256 (lit< tt) in
      let first = div-add-mod' (entry_of 256) (2 ^ 27) in
      let up : Within (w * n + w + 0) (n * ln_entry (12 + r) 256 + ln_entry (12 + r) j + S) ((n * Q + quotient_of j) * 2 ^ 1031 + ((n * R + remainder_of j) * 2 ^ 1004 + S)) =
      recast refl refl (sym (gathered n Q (quotient_of j) R (remainder_of j) (2 ^ 27) (2 ^ 1004) S first (div-add-mod' (entry_of j) (2 ^ 27)))) (plus (plus (recast refl (mul_comm (ln_entry (12 + r) 256) n) (mul_comm (entry_of 256 * 2 ^ 1004) n) (times n two)) (entry-near r j j-lt)) (same S)) in
      let dn : Within (w * 1074) (1074 * ln_entry (12 + r) 256) (1074 * Q * 2 ^ 1031 + (1074 * R * 2 ^ 1004 + 0)) =
      recast refl (mul_comm (ln_entry (12 + r) 256) 1074) (mul_comm (entry_of 256 * 2 ^ 1004) 1074 ∙ sym (gathered-two 1074 Q R (2 ^ 27) (2 ^ 1004) first)) (times 1074 two) in
      loosen (room (2 ^ 1023) (2 ^ 1021) (2 ^ k) (w * n) w (w * 1074) (w * 2097) (2 ^ 1024) (mul-le-mul_left w N) (lit≤ tt)) (shift base (plus (flip up) dn))
    where
      room : (a b z x h y X w : ℕ) → x ≤ X → a + b + X + h + y ≤ w → 0 + (0 + a + b) + z + (x + h + 0 + y) ≤ z + w
      room a b z x h y X w l m = omega arith
