-- IEEE 754's square root of a finite number above zero is the whole number of 53 digits nearest the real root, times a power of two. Assumes nothing.
use mathlib.Core.Path.{◌≡◌, refl, sym, ◌∙◌, ap, subst}
use mathlib.Core.Bool.{Bool, true, false, cond}
use mathlib.Core.Logic.{◌⊎◌, inl, inr}
use Prim.Native.Nat.{ℕ, zero, suc, ◌+◌, ◌-◌, ◌*◌, ◌/◌, ◌^◌, ◌<◌, ◌≤◌}
use native.Mathlib.Nat.{le_trans, le_of_eq, lt_of_lt_of_le, lt_of_le_of_lt, lt_of_not-le, not-le_of_lt, zero-mul, mul-suc, suc-mul, le_of_suc-le-suc, mul_assoc, mul_comm, mul_right_comm, mul-mul-mul_comm, mul-le-mul, mul-le-mul_left, mul-le-mul_right, mul-lt-mul_of_pos_right, le_of_mul-le-mul_right, lt_of_mul-lt-mul_right, mul-pos, one-mul, div-lt_iff_lt-mul, le-div_iff_mul-le, mul-div_cancel}
use native.Mathlib.Omega.{arith}
use lib.Dec.{T, eqb, lit<, lit≤}
use lib.Pow.{pow-add, pow_pos, pow-lt, pow_mono}
use lib.Ieee.{Float, nan, inf, fin, binary64, up, down, fits, lt, of_bits, size, round, root_below, root_twice, sqrt}
use lib.Ieee.Digits.{size-lt, size_reaches}
use lib.Ieee.Exact.{HasValue, units_val}
use lib.Ieee.Fits.{round_is, down_pos}
use lib.Ieee.Nearest.{closest, closest_same, div_same}
use lib.Ieee.Order.{drop, kept}
use lib.Ieee.Positive.{first_pos}
use lib.Ieee.Root.{whole_part}
use borrow.Author.Tests.{eqb-true}
use Rattle.numbers.specs.Number.{finite, zero_f}
use Rattle.numbers.proofs.Leaves.{clash}
use Rattle.rounding.specs.Units.{units_in_one, units_of}
use Rattle.rounding.proofs.Units.{Counted, counted, above_zero, pow-less}
use Rattle.root.proofs.Halves.{NearRoot, Twice, closest-half, near-root}

-- the root of m to half a place
pub root-twice : (m : ℕ) → Twice m (root_below (size m) m) (root_twice m)
unfolding root_twice
root-twice m =
    let w = whole_part m in
    let s = root_below (size m) m in
    record { whole = w.0; next = w.1; twice = go (eqb (s * s) m) refl }
  where
    go : (b : Bool) → eqb (root_below (size m) m * root_below (size m) m) m ≡ b
        → ((2 * root_below (size m) m + cond b 0 1 ≡ 2 * root_below (size m) m) × (root_below (size m) m * root_below (size m) m ≡ m)) ⊎ (2 * root_below (size m) m + cond b 0 1 ≡ 2 * root_below (size m) m + 1)
    go true e = inl (omega arith, eqb-true _ _ e)
    go false e = inr refl

joined : (a b e : ℕ) → a + b ≡ e → 2 ^ a * 2 ^ b ≡ 2 ^ e
joined a b e h = sym (pow-add 2 a b) ∙ ap (λ (x : ℕ). 2 ^ x) h

-- What `round` makes of r / 2 ^ 2272, where r is twice the root of m: in units, r / 2 ^ 1198 without its last k digits.
-- Here m is q * 2 ^ (z + 3468), which is 2 ^ 4542 times a number of q * 2 ^ z units.
module _ (m s r q z : ℕ) (root : Twice m s r) (is : m ≡ q * 2 ^ (z + 3468)) (some : 0 < q) (few : q < 2 ^ 53) (reach : z < 2098) where
  -- in units, rounded down
  abbrev w : ℕ
  w = r / 2 ^ 1198

  abbrev k : ℕ
  k = size w - 53

  -- a step of the result is four c
  abbrev c : ℕ
  c = 2 ^ (1196 + k)

  two_c : 2 * c ≡ 2 ^ (1197 + k)
  two_c = joined 1 (1196 + k) (1197 + k) (omega arith)

  four_c : 4 * c ≡ 2 ^ (1198 + k)
  four_c = joined 2 (1196 + k) (1198 + k) (omega arith)

  some_c : 0 < c
  some_c = pow_pos (1196 + k)

  square : 4 * (c * c) ≡ 2 ^ (2394 + 2 * k)
  square = ap (λ (x : ℕ). 4 * x) (joined (1196 + k) (1196 + k) (2392 + 2 * k) (omega arith)) ∙ joined 2 (2392 + 2 * k) (2394 + 2 * k) (omega arith)

  between : (2 * s ≤ r) × (r ≤ 2 * s + 1)
  between = go root.twice
    where
      go : ((r ≡ 2 * s) × (s * s ≡ m)) ⊎ (r ≡ 2 * s + 1) → (2 * s ≤ r) × (r ≤ 2 * s + 1)
      go (inl h) = (omega (arith, h.0), omega (arith, h.0))
      go (inr h) = (omega (arith, h), omega (arith, h))

  -- ---- the root has more digits than are kept

  large : 2 ^ 1734 ≤ s
  large = lt_of_not-le (λ (h : s ≤ 2 ^ 1734 - 1). not-le_of_lt root.next (le_trans (squared (up_to s h)) (le_trans (mul-le-mul some (pow_mono {i = 3468} (omega arith))) (le_of_eq (sym is)))))
    where
      up_to : (s : ℕ) → s ≤ 2 ^ 1734 - 1 → s + 1 ≤ 2 ^ 1734
      up_to s h = omega arith

      squared : s + 1 ≤ 2 ^ 1734 → (s + 1) * (s + 1) ≤ 1 * 2 ^ 3468
      squared h = mul-le-mul h h

  long : 2 ^ 537 ≤ w
  long = (le-div_iff_mul-le (pow_pos 1198)).1 (le_trans (mul-le-mul_left 2 large) between.0)

  many : 54 ≤ size w
  many = lt_of_not-le (λ (h : size w ≤ 53). not-le_of_lt (lt_of_lt_of_le (size-lt w) (pow_mono h)) (le_trans (lit≤ tt) long))

  low : 2 ^ 53 * (2 * c) ≤ r
  low =
      le_trans (le_of_eq (ap (λ (x : ℕ). 2 ^ 53 * x) two_c ∙ joined 53 (1197 + k) (1250 + k) (omega arith) ∙ sym (joined (52 + k) 1198 (1250 + k) (omega arith))))
      ((le-div_iff_mul-le (pow_pos 1198)).0 (size_reaches w (52 + k) (omega (arith, many))))

  high : r < 2 ^ 54 * (2 * c)
  high =
      lt_of_lt_of_le ((div-lt_iff_lt-mul (pow_pos 1198)).0 (lt_of_lt_of_le (size-lt w) (pow_mono (all_digits (size w)))))
      (le_of_eq (joined (53 + k) 1198 (1251 + k) (omega arith) ∙ sym (ap (λ (x : ℕ). 2 ^ 54 * x) two_c ∙ joined 54 (1197 + k) (1251 + k) (omega arith))))
    where
      all_digits : (a : ℕ) → a ≤ 53 + (a - 53)
      all_digits a = omega arith

  -- ---- in squares of steps

  times_squared : (a : ℕ) → a * (2 * c) * (a * (2 * c)) ≡ a * a * (4 * (c * c))
  times_squared a = mul-mul-mul_comm a (2 * c) a (2 * c) ∙ ap (λ (x : ℕ). a * a * x) (mul-mul-mul_comm 2 c 2 c)

  from_low : 2 ^ 104 * (4 * (c * c)) ≤ m
  from_low =
      let a : 2 ^ 52 * (2 * c) ≤ s = omega (arith, low, between.1) in
      le_trans (le_of_eq (sym (times_squared (2 ^ 52)))) (le_trans (mul-le-mul a a) root.whole)

  to_high : m < 2 ^ 106 * (4 * (c * c))
  to_high =
      let a : s + 1 ≤ 2 ^ 53 * (2 * c) = omega (arith, high, between.0) in
      lt_of_lt_of_le root.next (le_trans (mul-le-mul a a) (le_of_eq (times_squared (2 ^ 53))))

  -- m ends with zeros enough for a square of steps
  enough : 2 * k ≤ z + 1023
  enough =
      let a : 2 ^ (2498 + 2 * k) < 2 ^ (z + 3521) =
      lt_of_le_of_lt (le_trans (le_of_eq (sym (ap (λ (x : ℕ). 2 ^ 104 * x) square ∙ joined 104 (2394 + 2 * k) (2498 + 2 * k) (omega arith)))) from_low)
      (lt_of_le_of_lt (le_of_eq is) (lt_of_lt_of_le (mul-lt-mul_of_pos_right few (pow_pos (z + 3468))) (le_of_eq (joined 53 (z + 3468) (z + 3521) (omega arith))))) in
      omega (arith, pow-less (2498 + 2 * k) (z + 3521) a)

  abbrev n : ℕ
  n = q * 2 ^ (z + 1074 - 2 * k)

  in-squares : m ≡ n * (4 * (c * c))
  in-squares =
      is
      ∙ ap (λ (x : ℕ). q * x) (sym (joined (z + 1074 - 2 * k) (2394 + 2 * k) (z + 3468) (omega (arith, enough))))
      ∙ sym (mul_assoc q (2 ^ (z + 1074 - 2 * k)) (2 ^ (2394 + 2 * k)))
      ∙ ap (λ (x : ℕ). n * x) (sym square)

  pub n-low : 2 ^ 104 ≤ n
  n-low = le_of_mul-le-mul_right (le_trans from_low (le_of_eq in-squares)) (mul-pos (lit< tt) (mul-pos some_c some_c))

  n-high : n < 2 ^ 106
  n-high = lt_of_mul-lt-mul_right (4 * (c * c)) (lt_of_le_of_lt (le_of_eq (sym in-squares)) to_high)

  pub in_units : q * 2 ^ z * units_in_one ≡ n * (2 ^ k * 2 ^ k)
  in_units =
      mul_assoc q (2 ^ z) units_in_one
      ∙ ap (λ (x : ℕ). q * x) (joined z 1074 (z + 1074) refl ∙ sym (ap (λ (x : ℕ). 2 ^ (z + 1074 - 2 * k) * x) (joined k k (2 * k) (omega arith)) ∙ joined (z + 1074 - 2 * k) (2 * k) (z + 1074) (omega (arith, enough))))
      ∙ sym (mul_assoc q (2 ^ (z + 1074 - 2 * k)) (2 ^ k * 2 ^ k))

  -- ---- what is kept

  abbrev p : ℕ
  p = closest r (4 * c)

  positive : 0 < n
  positive = lt_of_lt_of_le (lit< tt) n-low

  pub near : NearRoot n p
  near = near-root m s r n c p root some_c positive (in-squares ∙ sym (mul_assoc n 4 (c * c)) ∙ ap (λ (x : ℕ). x * (c * c)) (mul_comm n 4)) (closest-half r (4 * c) (mul-pos (lit< tt) some_c))

  pub p-low : 2 ^ 52 ≤ p
  p-low = lt_of_not-le (λ (h : p ≤ 2 ^ 52 - 1). below h (mul-le-mul h h))
    where
      below : p ≤ 2 ^ 52 - 1 → p * p ≤ (2 ^ 52 - 1) * (2 ^ 52 - 1) → ⊥
      below h l = omega (arith, near.below, n-low)

  p-high : p ≤ 2 ^ 53
  p-high = le_of_suc-le-suc (lt_of_not-le (λ (h : 2 ^ 53 + 1 ≤ p). far p h near.above))
    where
      far : (p : ℕ) → 2 ^ 53 + 1 ≤ p → p * p < n + p → ⊥
      far zero h a = omega arith
      far (suc t) h a =
          let l : 2 ^ 53 ≤ t = omega arith in
          let b : 2 ^ 53 * 2 ^ 53 ≤ t * t = mul-le-mul l l in
          omega (arith, n-high, mul-suc (suc t) t, suc-mul t t)

  kept-is : kept 53 (r * units_in_one) (2 ^ 2272) * 2 ^ drop 53 (r * units_in_one) (2 ^ 2272) ≡ p * 2 ^ k
  kept-is =
      let e : r * units_in_one / 2 ^ 2272 ≡ w = div_same (r * units_in_one) (2 ^ 2272) r (2 ^ 1198) (pow_pos 2272) (pow_pos 1198) (mul_assoc r units_in_one (2 ^ 1198)) in
      ap (λ (x : ℕ). closest (r * units_in_one) (2 ^ 2272 * 2 ^ (size x - 53)) * 2 ^ (size x - 53)) e
      ∙ ap (λ (x : ℕ). x * 2 ^ k)
      (closest_same (r * units_in_one) (2 ^ 2272 * 2 ^ k) r (4 * c) (mul-pos (pow_pos 2272) (pow_pos k)) (mul-pos (lit< tt) some_c)
      (mul_assoc r units_in_one (4 * c) ∙ ap (λ (x : ℕ). r * x) (ap (λ (x : ℕ). units_in_one * x) four_c ∙ joined 1074 (1198 + k) (2272 + k) (omega arith) ∙ sym (joined 2272 k (2272 + k) refl))))

  pub value : HasValue (round binary64 false r (2 ^ 2272)) false (p * 2 ^ k) units_in_one
  value =
      subst (λ (x : ℕ). HasValue (round binary64 false r (2 ^ 2272)) false x units_in_one) kept-is
      (subst (λ (y : Float). HasValue y false (kept 53 (r * units_in_one) (2 ^ 2272) * 2 ^ drop 53 (r * units_in_one) (2 ^ 2272)) units_in_one) (sym (round_is binary64 false r (2 ^ 2272)))
      (units_val binary64 false (kept 53 (r * units_in_one) (2 ^ 2272)) (drop 53 (r * units_in_one) (2 ^ 2272))
      (lt_of_le_of_lt (le_of_eq kept-is) (lt_of_le_of_lt (mul-le-mul_right (2 ^ k) p-high) (lt_of_le_of_lt (le_of_eq (joined 53 k (53 + k) refl)) (pow-lt {j = 2098} (omega (arith, enough, reach))))))))

-- ---- the root of a number

-- r is p * 2 ^ h units, and p is the whole number nearest the root of n, where x * units_in_one is n * 2 ^ (h + h)
pub record Rooted (x r : Float) : Type 0 where
  pub n : ℕ
  pub p : ℕ
  pub h : ℕ
  pub value : HasValue r false (p * 2 ^ h) units_in_one
  pub same : units_of x * units_in_one ≡ n * (2 ^ h * 2 ^ h)
  pub near : NearRoot n p
  pub low : 2 ^ 52 ≤ p
  pub large : 2 ^ 104 ≤ n

pub rooted : (x : Float) → T (fits binary64 x) → finite x ≡ true → lt zero_f x ≡ true → Rooted x (sqrt binary64 x)
unfolding finite lt of_bits sqrt
rooted nan f g l = clash g
rooted (inf s) f g l = clash g
rooted (fin true m e) f g l = clash l
rooted (fin false zero e) f g l = clash (simp zero-mul at l)
rooted (fin false (suc m) e) f g l = record {
  n = digits * 2 ^ (zeros + 1074 - 2 * (size (root_twice square / 2 ^ 1198) - 53));
  p = closest (root_twice square) (4 * 2 ^ (1196 + (size (root_twice square / 2 ^ 1198) - 53)));
  h = size (root_twice square / 2 ^ 1198) - 53;
  value = value square s (root_twice square) digits zeros root is some c.few reach;
  same = ap (λ (a : ℕ). a * units_in_one) c.is ∙ in_units square s (root_twice square) digits zeros root is some c.few reach;
  near = near square s (root_twice square) digits zeros root is some c.few reach;
  low = p-low square s (root_twice square) digits zeros root is some c.few reach;
  large = n-low square s (root_twice square) digits zeros root is some c.few reach;
}
  where
    x : Float
    x = fin false (suc m) e

    c : Counted (fin false (suc m) e)
    c = counted (fin false (suc m) e) f refl

    digits : ℕ
    digits = c.digits

    zeros : ℕ
    zeros = c.zeros

    square : ℕ
    square = suc m * up e * 2 ^ 4542 / down e

    s : ℕ
    s = root_below (size square) square

    root : Twice square s (root_twice square)
    root = root-twice square

    is : square ≡ digits * 2 ^ (zeros + 3468)
    is =
        let a : suc m * up e * 2 ^ 4542 ≡ digits * 2 ^ (zeros + 3468) * down e =
        sym (mul_assoc (suc m * up e) units_in_one (2 ^ 3468))
        ∙ ap (λ (a : ℕ). a * 2 ^ 3468) (c.value.1 ∙ ap (λ (a : ℕ). a * down e) c.is)
        ∙ mul_right_comm (digits * 2 ^ zeros) (down e) (2 ^ 3468)
        ∙ ap (λ (a : ℕ). a * down e) (mul_assoc digits (2 ^ zeros) (2 ^ 3468) ∙ ap (λ (a : ℕ). digits * a) (joined zeros 3468 (zeros + 3468) refl)) in
        ap (λ (a : ℕ). a / down e) a ∙ mul-div_cancel (digits * 2 ^ (zeros + 3468)) (down_pos e)

    some : 0 < digits
    some = first_pos digits (2 ^ zeros) (subst (λ (a : ℕ). 0 < a) c.is (above_zero (fin false (suc m) e) f refl l).1)

    reach : zeros < 2098
    reach = pow-less zeros 2098 (lt_of_le_of_lt (le_trans (le_of_eq (sym (one-mul (2 ^ zeros)))) (mul-le-mul_right (2 ^ zeros) some)) (lt_of_le_of_lt (le_of_eq (sym c.is)) c.below))
