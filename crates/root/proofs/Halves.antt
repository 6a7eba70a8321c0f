-- A fraction rounded to the nearest whole number, and the whole number nearest a root that is known to half a place. Assumes nothing.
use mathlib.Core.Path.{◌≡◌, sym, ◌∙◌, subst}
use mathlib.Core.Bool.{not}
use mathlib.Core.Logic.{◌⊎◌, inl, inr}
use Prim.Native.Nat.{ℕ, zero, suc, ◌+◌, ◌*◌, ◌/◌, ◌%◌, ◌<◌, ◌≤◌, compare, Ordering}
use native.Mathlib.Nat.{le_trans, le_of_eq, le_of_lt, add-mul, suc-mul, mul_assoc, mul_comm, mul_left_comm, mul-add, mul-suc, mul-mul-mul_comm, mul-le-mul, mul-pos, le_of_mul-le-mul_right, div-add-mod', mod-lt}
use native.Mathlib.Omega.{arith}
use lib.Dec.{T, is_le, compare_is_eq, eqb, leb→le, nleb→lt, eqb→eq, eqb_refl}
use lib.Arith.{lt_of_le-ne}
use lib.Ieee.{nearest}
use lib.Ieee.Nearest.{closest}

-- p is the whole number nearest the root of n: n lies between the squares of p - 1/2 and p + 1/2, which are p * p - p + 1/4 and p * p + p + 1/4
pub record NearRoot (n p : ℕ) : Type 0 where
  pub above : p * p < n + p
  pub below : n ≤ p * p + p

-- the square of a sum
pub square-sum : (x y : ℕ) → (x + y) * (x + y) ≡ x * x + x * y + x * y + y * y
square-sum x y = omega (arith, add-mul x y (x + y), mul-add x x y, mul-add y x y, mul_comm x y)

-- ---- a fraction

abbrev Compared : Ordering → ℕ → ℕ → Type 0
Compared Ordering.lt a b = a < b
Compared Ordering.eq a b = a ≡ b
Compared Ordering.gt a b = b < a

compared : (a b : ℕ) → Compared (compare a b) a b
compared a b = go (compare a b) (leb→le a b) (nleb→lt a b) (eqb→eq a b) (λ (e : a ≡ b). subst (λ (x : ℕ). T (eqb a x)) e (eqb_refl a))
  where
    go : (o : Ordering) → (T (is_le o) → a ≤ b) → (T (not (is_le o)) → b < a) → (T (compare_is_eq o) → a ≡ b) → (a ≡ b → T (compare_is_eq o)) → Compared o a b
    go Ordering.lt h k e n = lt_of_le-ne (h tt) n
    go Ordering.eq h k e n = e tt
    go Ordering.gt h k e n = k tt

-- the whole number nearest a / b is a half off at most
pub record Half (a b c : ℕ) : Type 0 where
  pub over : 2 * (c * b) ≤ 2 * a + b
  pub under : 2 * a ≤ 2 * (c * b) + b

pub closest-half : (a b : ℕ) → 0 < b → Half a b (closest a b)
closest-half a b B = go (compare (a % b * 2) b) (compared (a % b * 2) b)
  where
    e : a / b * b + a % b ≡ a
    e = div-add-mod' a b

    tie : (t : ℕ) → t < 2 → a % b * 2 ≡ b → Half a b (a / b + t)
    tie zero l h = record { over = omega (arith, e, add-mul (a / b) 0 b); under = omega (arith, e, add-mul (a / b) 0 b) }
    tie (suc zero) l h = record { over = omega (arith, e, add-mul (a / b) 1 b); under = omega (arith, e, add-mul (a / b) 1 b) }
    tie (suc (suc t)) l h = absurd (omega arith)

    go : (o : Ordering) → Compared o (a % b * 2) b → Half a b (nearest (a / b) o)
    go Ordering.lt h = record { over = omega (arith, e); under = omega (arith, e) }
    go Ordering.eq h = tie (a / b % 2) (mod-lt (a / b) (omega arith)) h
    go Ordering.gt h = let l : a % b < b = mod-lt a B in record { over = omega (arith, e, suc-mul (a / b) b); under = omega (arith, e, suc-mul (a / b) b) }

-- ---- a root

-- what is known of the root of m: s is its whole part, and r is twice it, or the odd number next to that where more follows
pub record Twice (m s r : ℕ) : Type 0 where
  pub whole : s * s ≤ m
  pub next : m < (s + 1) * (s + 1)
  pub twice : ((r ≡ 2 * s) × (s * s ≡ m)) ⊎ (r ≡ 2 * s + 1)

-- p is the whole number nearest r / 4 c, so it is the one nearest the root of n, where m is 4 n c²
module _ (m s r n c p : ℕ) (root : Twice m s r) (some : 0 < c) (positive : 0 < n) (is : m ≡ 4 * n * (c * c)) (half : Half r (4 * c) p) where
  squares : (a : ℕ) → a * c * (a * c) ≡ a * a * (c * c)
  squares a = mul-mul-mul_comm a c a c

  at_most : r ≤ 2 * s + 1
  at_most = go root.twice
    where
      go : ((r ≡ 2 * s) × (s * s ≡ m)) ⊎ (r ≡ 2 * s + 1) → r ≤ 2 * s + 1
      go (inl h) = omega (arith, h.0)
      go (inr h) = omega (arith, h)

  quarters : p * (4 * c) ≡ 4 * (p * c)
  quarters = mul_left_comm p 4 c

  -- p - 1/2 is not above the root
  above : (p : ℕ) → 8 * (p * c) ≤ 2 * r + 4 * c → p * p < n + p
  above zero h = omega (arith, positive)
  above (suc t) h =
      let a : (2 * t + 1) * c ≤ s = omega (arith, at_most, add-mul (2 * t) 1 c, mul_assoc 2 t c, suc-mul t c) in
      let b : (2 * t + 1) * (2 * t + 1) * (c * c) ≤ 4 * n * (c * c) = le_trans (le_of_eq (sym (squares (2 * t + 1)))) (le_trans (mul-le-mul a a) (le_trans root.whole (le_of_eq is))) in
      let d : (2 * t + 1) * (2 * t + 1) ≤ 4 * n = le_of_mul-le-mul_right b (mul-pos some some) in
      omega (arith, d, square-sum (2 * t) 1, mul-mul-mul_comm 2 t 2 t, suc-mul t (suc t), mul-suc t t)

  abbrev odd : ℕ
  odd = 2 * p + 1

  -- p + 1/2 is not below it
  below : 2 * r ≤ 8 * (p * c) + 4 * c → n ≤ p * p + p
  below h = go root.twice
    where
      spread : odd * odd ≡ 4 * (p * p) + 4 * p + 1
      spread = omega (arith, square-sum (2 * p) 1, mul-mul-mul_comm 2 p 2 p)

      times : odd * c ≡ 2 * (p * c) + c
      times = omega (arith, add-mul (2 * p) 1 c, mul_assoc 2 p c)

      of-squares : 4 * n * (c * c) ≤ odd * odd * (c * c) → n ≤ p * p + p
      of-squares b = omega (arith, le_of_mul-le-mul_right b (mul-pos some some), spread)

      go : ((r ≡ 2 * s) × (s * s ≡ m)) ⊎ (r ≡ 2 * s + 1) → n ≤ p * p + p
      go (inl (e, f)) =
          let a : s ≤ odd * c = omega (arith, h, e, times) in
          of-squares (le_trans (le_of_eq (sym is ∙ sym f)) (le_trans (mul-le-mul a a) (le_of_eq (squares odd))))
      go (inr e) =
          let a : s + 1 ≤ odd * c = omega (arith, h, e, times) in
          of-squares (le_trans (le_of_eq (sym is)) (le_trans (le_of_lt root.next) (le_trans (mul-le-mul a a) (le_of_eq (squares odd)))))

  pub near-root : NearRoot n p
  near-root = record { above = above p (omega (arith, half.over, quarters)); below = below (omega (arith, half.under, quarters)) }
