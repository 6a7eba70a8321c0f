-- Sums to which a zero is added. A sum from +0 never becomes -0, so a zero of either sign added to it changes nothing. Assumes nothing.
use mathlib.Core.Path.{◌≡◌, refl, sym, ◌∙◌, ap, ap₂, subst}
use mathlib.Core.Bool.{Bool, true, false, cond}
use mathlib.Core.Logic.{◌⊎◌, inl, inr}
use Prim.Native.Nat.{ℕ, zero, suc, ◌+◌, ◌-◌, ◌*◌, ◌/◌, ◌%◌, ◌^◌, ◌<◌, ◌≤◌, compare}
use native.Mathlib.Nat.{zero-mul, mul-one, one-mul, mul-pos, mul_assoc, mul_comm, mul_right_comm, add-zero, zero-lt-suc, le-div_iff_mul-le, add-mul, mul-le-mul_right, lt_irrefl, lt_of_lt_of_le, sub-zero, mul-lt-mul_of_pos_right, lt_of_mul-lt-mul_right, mul-sub, suc-mul, le-mul_of_pos_right}
use native.Mathlib.Omega.{arith}
use lib.IntN.{ℤ, pos}
use lib.Dec.{T, ltb}
use lib.Pow.{pow_pos}
use lib.Ieee.{Float, nan, inf, fin, Format, binary64, prec, emax, low, up, down, size, nearest, odd, units, round, add, sum, mul, div, fits, unlike, le, lt, eq}
use lib.Ieee.Digits.{size-lt, size_reaches}
use lib.Ieee.Exact.{HasValue, round_exact, odd_sign}
use lib.Ieee.Fits.{two, up_pos, down_pos, round-fits, round_is}
use lib.Ieee.Nearest.{nearest-ge}
use lib.Ieee.Order.{round_mono}
use borrow.Author.Tests.{lt-ltb, le-ltb, ltb-true}
use Rattle.numbers.specs.Number.{finite, Plain}
use Rattle.numbers.proofs.Leaves.{clash, zero_exponent}
use Rattle.rounding.proofs.Unique.{value-unique, round-self}
use Rattle.rounding.specs.Units.{units_in_one, units_of}
use Rattle.rounding.proofs.Units.{counted}

-- zero, rounded
pub round-zero : (f : Format) (s : Bool) (c : ℕ) → 0 < c → round f s 0 c ≡ fin s 0 (pos 0)
unfolding fits
round-zero f s c p =
    value-unique f (round f s 0 c) (fin s 0 (pos 0)) s 0 c p (round-fits f s 0 c) tt
    (round_exact f s 0 c 0 0 p (pow_pos (prec f)) (pow_pos (low f + suc (emax f))) (zero-mul (2 ^ low f) ∙ sym (zero-mul c)))
    (refl, zero-mul c)

-- +0 times a finite number is a zero
pub zero-times : (t : Bool) (n : ℕ) (d : ℤ) → mul binary64 (fin false 0 (pos 0)) (fin t n d) ≡ fin t 0 (pos 0)
unfolding mul
zero-times true n d = ap (λ (z : ℕ). round binary64 true z (1 * down d)) (zero-mul (n * up d)) ∙ round-zero binary64 true (1 * down d) (mul-pos (pow_pos 0) (down_pos d))
zero-times false n d = ap (λ (z : ℕ). round binary64 false z (1 * down d)) (zero-mul (n * up d)) ∙ round-zero binary64 false (1 * down d) (mul-pos (pow_pos 0) (down_pos d))

-- a sum with a zero of either sign
sum-nothing : (f : Format) (s t : Bool) (a c : ℕ) → 0 < a → sum f s a t 0 c ≡ round f s a c
unfolding sum
sum-nothing f true true a c h = rw add-zero
sum-nothing f false false a c h = rw add-zero
sum-nothing f true false a c h = simp (le-ltb a 0 (omega arith), lt-ltb 0 a h, sub-zero)
sum-nothing f false true a c h = simp (le-ltb a 0 (omega arith), sub-zero)

-- +0 plus a zero is +0
sum_zeros : (f : Format) (t : Bool) (a c : ℕ) → a ≡ 0 → 0 < c → sum f false a t 0 c ≡ fin false 0 (pos 0)
unfolding sum
sum_zeros f true a c z p = rw z (round-zero f false c p)
sum_zeros f false a c z p = rw z (round-zero f false c p)

-- a number that is not zero, and a zero
pub own-last : (s : Bool) (m : ℕ) (e : ℤ) (t : Bool) → T (fits binary64 (fin s (suc m) e)) → add binary64 (fin s (suc m) e) (fin t 0 (pos 0)) ≡ fin s (suc m) e
unfolding add
own-last s m e t h =
    let a = suc m * up e * 1 in
    let c = down e * 1 in
    ap (λ (z : ℕ). sum binary64 s a t z c) (zero-mul (down e))
    ∙ sum-nothing binary64 s t a c (mul-pos (mul-pos (zero-lt-suc m) (up_pos e)) (pow_pos 0))
    ∙ round-self binary64 s m e a c (mul-pos (down_pos e) (pow_pos 0)) h (rw (mul-one, mul-one))

pub add_nothing : (x : Float) (t : Bool) → T (fits binary64 x) → Plain x → add binary64 x (fin t 0 (pos 0)) ≡ x
unfolding add
add_nothing nan t h p = refl
add_nothing (inf s) t h p = refl
add_nothing (fin true zero e) t h p = absurd p
add_nothing (fin false zero e) t h p =
    ap (λ (z : ℕ). sum binary64 false (0 * up e * 1) t z (down e * 1)) (zero-mul (down e))
    ∙ sum_zeros binary64 t (0 * up e * 1) (down e * 1) (mul-one (0 * up e) ∙ zero-mul (up e)) (mul-pos (down_pos e) (pow_pos 0))
    ∙ ap (λ (z : ℤ). fin false 0 z) (sym (zero_exponent false e h))
add_nothing (fin true (suc m) e) t h p = own-last true m e t h
add_nothing (fin false (suc m) e) t h p = own-last false m e t h

-- ---- a sum from +0 never becomes -0

-- not negative, or not zero
plain_value : (x : Float) (s : Bool) (a c : ℕ) → HasValue x s a c → (s ≡ false) ⊎ (0 < a) → Plain x
plain_value nan s a c v h = tt
plain_value (inf t) s a c v h = tt
plain_value (fin false m e) s a c v h = tt
plain_value (fin true (suc m) e) s a c v h = tt
plain_value (fin true zero e) s a c v (inl h) = clash (sym (v.0 ∙ h))
plain_value (fin true zero e) s a c v (inr h) =
    let z : a * down e ≡ 0 = sym v.1 ∙ ap (λ (k : ℕ). k * c) (zero-mul (up e)) ∙ zero-mul c in
    lt_irrefl 0 (subst (λ (k : ℕ). 0 < k) z (mul-pos h (down_pos e)))

units-plain : (f : Format) (s : Bool) (q k : ℕ) → (s ≡ false) ⊎ (0 < q) → Plain (units f s q k)
unfolding units
units-plain f s q k h = go (ltb (q * 2 ^ k) (2 ^ (low f + suc (emax f))))
  where
    scaled : (s ≡ false) ⊎ (0 < q) → (s ≡ false) ⊎ (0 < q * 2 ^ k)
    scaled (inl e) = inl e
    scaled (inr l) = inr (mul-pos l (pow_pos k))

    go : (b : Bool) → Plain (cond b (odd (suc (prec f)) s q k (low f)) (inf s))
    go true = plain_value (odd (suc (prec f)) s q k (low f)) s (q * 2 ^ k) (2 ^ low f) (odd_sign (suc (prec f)) s q k (low f)) (scaled h)
    go false = tt

-- one of the format's smallest values at least, and so not zero once rounded
kept-some : (f : Format) (n c : ℕ) → 0 < c → c ≤ n → 0 < n / (c * 2 ^ (size (n / c) - prec f))
kept-some f n c p h =
    let w = n / c in
    let k = size w - prec f in
    let one : 1 ≤ w = (le-div_iff_mul-le p).1 (omega arith) in
    let some : 0 < size w = pos_of (size w) w one (size-lt w) in
    let l : k < size w = omega (arith, two f) in
    let r : 2 ^ k * c ≤ n = (le-div_iff_mul-le p).0 (size_reaches w k l) in
    (le-div_iff_mul-le (mul-pos p (pow_pos k))).1 (omega (arith, mul_comm c (2 ^ k)))
  where
    pos_of : (z w : ℕ) → 1 ≤ w → w < 2 ^ z → 0 < z
    pos_of zero w a b = absurd (omega arith)
    pos_of (suc z) w a b = zero-lt-suc z

pub round-plain : (f : Format) (s : Bool) (a c : ℕ) → 0 < c → (s ≡ false) ⊎ (c ≤ a * 2 ^ low f) → Plain (round f s a c)
round-plain f s a c p h = subst Plain (sym (round_is f s a c)) (units-plain f s (nearest (n / u) (compare (n % u * 2) u)) k (some h))
  where
    n : ℕ
    n = a * 2 ^ low f

    k : ℕ
    k = size (n / c) - prec f

    u : ℕ
    u = c * 2 ^ k

    some : (s ≡ false) ⊎ (c ≤ n) → (s ≡ false) ⊎ (0 < nearest (n / u) (compare (n % u * 2) u))
    some (inl e) = inl e
    some (inr l) = inr (lt_of_lt_of_le (kept-some f n c p l) (nearest-ge (n / u) (compare (n % u * 2) u)))

-- a and b are whole numbers of c / l, so one of these at least lies between them
gap : (a b c l α β : ℕ) → 0 < l → a * l ≡ α * c → b * l ≡ β * c → b < a → c ≤ (a - b) * l
gap a b c l α β p u v h =
    let q : b * l < a * l = mul-lt-mul_of_pos_right h p in
    let r : β < α = lt_of_mul-lt-mul_right c (omega arith) in
    let m : suc β * c ≤ α * c = mul-le-mul_right c r in
    let d : (a - b) * l ≡ a * l - b * l = mul_comm (a - b) l ∙ mul-sub l a b ∙ ap₂ (λ (x y : ℕ). x - y) (mul_comm l a) (mul_comm l b) in
    omega (arith, suc-mul β c)

-- ±a / c + ±b / c, of which the first is not -0, where a and b are whole numbers α and β of c / 2 ^ low
sum-plain : (f : Format) (s t : Bool) (a b c α β : ℕ) → 0 < c → a * 2 ^ low f ≡ α * c → b * 2 ^ low f ≡ β * c → (s ≡ false) ⊎ (0 < α) → Plain (sum f s a t b c)
unfolding sum
sum-plain f false false a b c α β p u v h = round-plain f false (a + b) c p (inl refl)
sum-plain f true true a b c α β p u v (inl h) = clash (sym h)
sum-plain f true true a b c α β p u v (inr h) = round-plain f true (a + b) c p (inr (omega (arith, add-mul a b (2 ^ low f), mul-le-mul_right c h, one-mul c)))
sum-plain f false true a b c α β p u v h = go (ltb a b) (λ e. gap b a c (2 ^ low f) β α (pow_pos (low f)) v u (ltb-true a b e))
  where
    go : (k : Bool) → (k ≡ true → c ≤ (b - a) * 2 ^ low f) → Plain (cond k (round f true (b - a) c) (round f false (a - b) c))
    go true g = round-plain f true (b - a) c p (inr (g refl))
    go false g = round-plain f false (a - b) c p (inl refl)
sum-plain f true false a b c α β p u v h = go (ltb a b) (ltb b a) (λ e. gap a b c (2 ^ low f) α β (pow_pos (low f)) u v (ltb-true b a e))
  where
    go : (k m : Bool) → (m ≡ true → c ≤ (a - b) * 2 ^ low f) → Plain (cond k (round f false (b - a) c) (round f m (a - b) c))
    go true m g = round-plain f false (b - a) c p (inl refl)
    go false true g = round-plain f true (a - b) c p (inr (g refl))
    go false false g = round-plain f false (a - b) c p (inl refl)

some : (s : Bool) (m : ℕ) (e : ℤ) (k : ℕ) → m * up e * units_in_one ≡ k * down e → Plain (fin s m e) → (s ≡ false) ⊎ (0 < k)
some false m e k h p = inl refl
some true zero e k h p = absurd p
some true (suc m) e zero h p = absurd (lt_irrefl 0 (subst (λ (z : ℕ). 0 < z) (h ∙ zero-mul (down e)) (mul-pos (mul-pos (zero-lt-suc m) (up_pos e)) (pow_pos 1074))))
some true (suc m) e (suc k) h p = inr (zero-lt-suc k)

pub add-plain : (x y : Float) → T (fits binary64 x) → T (fits binary64 y) → Plain x → Plain (add binary64 x y)
unfolding add finite
add-plain nan y hx hy p = tt
add-plain (inf s) nan hx hy p = tt
add-plain (inf true) (inf true) hx hy p = tt
add-plain (inf true) (inf false) hx hy p = tt
add-plain (inf false) (inf true) hx hy p = tt
add-plain (inf false) (inf false) hx hy p = tt
add-plain (inf s) (fin t n d) hx hy p = tt
add-plain (fin s m e) nan hx hy p = tt
add-plain (fin s m e) (inf t) hx hy p = tt
add-plain (fin s m e) (fin t n d) hx hy p =
    let x = (counted (fin s m e) hx refl).value.1 in
    let y = (counted (fin t n d) hy refl).value.1 in
    let k = units_of (fin t n d) in
    sum-plain binary64 s t (m * up e * down d) (n * up d * down e) (down e * down d) (units_of (fin s m e)) k (mul-pos (down_pos e) (down_pos d))
    (shared (m * up e) (down e) (down d) (units_of (fin s m e)) x)
    (shared (n * up d) (down d) (down e) k y ∙ ap (λ (z : ℕ). k * z) (mul_comm (down d) (down e)))
    (some s m e (units_of (fin s m e)) x p)
  where
    shared : (x d e k : ℕ) → x * units_in_one ≡ k * d → x * e * units_in_one ≡ k * (d * e)
    shared x d e k h = mul_right_comm x e units_in_one ∙ ap (λ (z : ℕ). z * e) h ∙ mul_assoc k d e

-- ---- a finite number over a power of two is finite

finite-units : (f : Format) (s : Bool) (q k : ℕ) → finite (units f s q k) ≡ finite (units f false q k)
unfolding units odd finite
finite-units f s q k = go (ltb (q * 2 ^ k) (2 ^ (low f + suc (emax f)))) q
  where
    go : (b : Bool) (q : ℕ) → finite (cond b (odd (suc (prec f)) s q k (low f)) (inf s)) ≡ finite (cond b (odd (suc (prec f)) false q k (low f)) (inf false))
    go true zero = refl
    go true (suc q) = refl
    go false q = refl

-- whatever the sign
finite-round : (f : Format) (s : Bool) (a c : ℕ) → finite (round f s a c) ≡ finite (round f false a c)
finite-round f s a c = ap finite (round_is f s a c) ∙ finite-units f s _ _ ∙ ap finite (sym (round_is f false a c))

-- what is no larger than a finite number is finite
pub finite-under : (f : Format) (a c m : ℕ) (e : ℤ) → T (le (round f false a c) (fin false m e)) → finite (round f false a c) ≡ true
unfolding units odd finite le lt eq
finite-under f a c m e h = ap finite (round_is f false a c) ∙ go _ _ (subst (λ (z : Float). T (le z (fin false m e))) (round_is f false a c) h)
  where
    cases : (b : Bool) (q k : ℕ) → T (le (cond b (odd (suc (prec f)) false q k (low f)) (inf false)) (fin false m e)) → finite (cond b (odd (suc (prec f)) false q k (low f)) (inf false)) ≡ true
    cases true zero k h = refl
    cases true (suc q) k h = refl
    cases false q k h = absurd h

    go : (q k : ℕ) → T (le (units f false q k) (fin false m e)) → finite (units f false q k) ≡ true
    go q k h = cases (ltb (q * 2 ^ k) (2 ^ (low f + suc (emax f)))) q k h

pub finite-over : (x : Float) (n : ℕ) → T (fits binary64 x) → finite x ≡ true → finite (div binary64 x (fin false 1 (pos n))) ≡ true
unfolding div finite fits
finite-over nan n h k = clash k
finite-over (inf s) n h k = clash k
finite-over (fin s zero e) n h k =
    ap finite
    (ap (λ (z : ℕ). round binary64 (unlike s false) z (1 * 2 ^ n * down e)) (mul-one (0 * up e) ∙ zero-mul (up e))
    ∙ round-zero binary64 (unlike s false) (1 * 2 ^ n * down e) (mul-pos (mul-pos (pow_pos 0) (pow_pos n)) (down_pos e)))
finite-over (fin s (suc m) e) n h k =
    finite-round binary64 (unlike s false) (suc m * up e * 1) (1 * 2 ^ n * down e)
    ∙ finite-under binary64 (suc m * up e * 1) (1 * 2 ^ n * down e) (suc m) e
    (subst (λ (z : Float). T (le (round binary64 false (suc m * up e * 1) (1 * 2 ^ n * down e)) z)) (round-self binary64 false m e (suc m * up e) (down e) (down_pos e) h refl)
    (round_mono binary64 (suc m * up e * 1) (1 * 2 ^ n * down e) (suc m * up e) (down e) (mul-pos (mul-pos (pow_pos 0) (pow_pos n)) (down_pos e)) (down_pos e) (wider (suc m * up e) (2 ^ n) (down e) (pow_pos n))))
  where
    wider : (x p d : ℕ) → 0 < p → x * 1 * d ≤ x * (1 * p * d)
    wider x p d h = rw (mul-one, one-mul, mul_comm p d, ← mul_assoc) (le-mul_of_pos_right (x * d) h)
