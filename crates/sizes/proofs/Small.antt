-- Products and powers of small whole numbers. Assumes nothing.
use Prim.Native.Nat.{ℕ, zero, suc, ◌%◌, ◌*◌, ◌^◌, ◌<◌, ◌≤◌}
use mathlib.Core.Path.{◌≡◌, refl}
use lib.Dec.{lit≤, lit<}
use native.Mathlib.Nat.{mul-le-mul, one-le-pow, pow-le-pow_left, pow-le-pow_right, zero-lt-suc}
use native.Mathlib.Omega.{arith}

pub product_le : (a b m n : ℕ) → a ≤ m → b ≤ n → a * b ≤ m * n
product_le a b m n h k = mul-le-mul {n₁ = a} {m₁ = b} {n₂ = m} {m₂ = n} h k

pub square-most : (p : ℕ) → p ≤ 16 → p * p ≤ 256
square-most p h = product_le p p 16 16 h h

-- a small power of a small base
pub power-fits : (b n : ℕ) → 0 < b → b ≤ 8 → n ≤ 3 → (0 < b ^ n) × (b ^ n ≤ b ^ 3) × (b ^ 3 ≤ 512)
power-fits b n p h k = (one-le-pow n b p, pow-le-pow_right {n = b} p {i = n} {j = 3} k, pow-le-pow_left h 3)

-- 4^n of up to two qubits
pub four-some : (n : ℕ) → 1 ≤ 4 ^ n
four-some n = one-le-pow n 4 (zero-lt-suc 3)

pub four-most : (n : ℕ) → n ≤ 2 → 4 ^ n ≤ 16
four-most n h = pow-le-pow_right {n = 4} (lit< tt) {i = n} {j = 2} h

-- 4^n, as a shift of 1 gives it
pub four-shift : (n : ℕ) → n ≤ 3 → (1 * 2 ^ (2 * n) % 2 ^ 64 ≡ 4 ^ n) × (4 ^ n ≤ 64)
four-shift zero h = (refl, lit≤ tt)
four-shift (suc zero) h = (refl, lit≤ tt)
four-shift (suc (suc zero)) h = (refl, lit≤ tt)
four-shift (suc (suc (suc zero))) h = (refl, lit≤ tt)
four-shift (suc (suc (suc (suc n)))) h = absurd (omega arith)
