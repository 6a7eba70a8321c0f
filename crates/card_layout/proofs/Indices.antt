-- The unused gate indices of a word, by the two ways of the code: all 16, or a remainder. Assumes nothing.
use Prim.Native.Nat.{ℕ, ◌-◌, ◌*◌, ◌^◌, ◌<◌, ◌%◌}
use mathlib.Core.Path.{◌≡◌, sym, ap, ◌∙◌}
use native.Mathlib.Nat.{mod-eq_of_lt}
use native.Mathlib.Omega.{arith}
use lib.Dec.{lit<, eqb}
use lib.Pow.{shl_exact, pow_pos}
use mathlib.Core.Bool.{not}
use Rattle.card_layout.specs.Rules.{used_in, indices_break}

-- a power of two below 2^64, as a shift of 1 gives it
pub shifted : (k : ℕ) → k < 64 → 1 * 2 ^ k % 2 ^ 64 ≡ 1 * 2 ^ k
shifted k h = shl_exact {a = 1} 1 k 64 (lit< tt) (omega arith)

pub shifted-pos : (k : ℕ) → k < 64 → 0 < 1 * 2 ^ k % 2 ^ 64
shifted-pos k h = rw (shifted k h) (omega (arith, pow_pos k))

pub indices-none : (len j w used : ℕ) → w < 2 ^ 64 → used ≡ used_in len j → used ≡ 0 → not (eqb w 0) ≡ indices_break len j w
unfolding indices_break
indices-none len j w used h e z =
    let k : used_in len j ≡ 0 = sym e ∙ z in
    rw k (ap (λ (n : ℕ). not (eqb n 0)) (sym (mod-eq_of_lt h)))

pub indices-some : (len j w used m : ℕ) → used ≡ used_in len j → (used ≡ 0 → ⊥) → m ≡ 1 * 2 ^ (4 * (16 - used)) % 2 ^ 64 → not (eqb (w % m) 0) ≡ indices_break len j w
unfolding indices_break
indices-some len j w used m e n p =
    let k : m ≡ 2 ^ (4 * (16 - used)) = p ∙ shifted (4 * (16 - used)) (omega arith) ∙ omega arith in
    rw (k, e)
