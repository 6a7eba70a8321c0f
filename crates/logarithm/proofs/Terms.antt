-- More terms of the series change little: from k terms on, each further one is below a 256th of the one before. Assumes nothing.
use Rattle.std.proofs.Common.{ℕ, zero, suc, ◌+◌, ◌-◌, ◌*◌, ◌/◌, ◌^◌, ◌<◌, ◌≤◌, sym, ap, ◌∙◌, subst, zero-le, le_trans, le_of_eq, le_refl, le-add_right, add-zero, add-suc, mul-le-mul_right, mul_assoc, suc-mul, mul_comm, add-sub_of_le, suc-add, mul-le-mul_left, one-mul, pow-suc, zero-add, div-le_self, sub-le, arith}
use Rattle.rounding.specs.Units.{units_in_one}
use Rattle.rounding.specs.Near.{Within}
use Rattle.rounding.proofs.Within.{plus, taken-off, scaled, quotient_le}
use Rattle.logarithm.specs.Series.{nested, ln1p, ln_ratio}

pub nested-le : (k i a b : ℕ) → nested k i a b ≤ units_in_one
unfolding nested
nested-le zero i a b = zero-le
nested-le (suc k) i a b = le_trans (sub-le (units_in_one / i) (a * nested k (suc i) a b / b)) (div-le_self units_in_one i)

-- a / b, at most a 256th, times what is at most 1
pub part-le : (a b h : ℕ) → 0 < b → a * 256 ≤ b → h ≤ units_in_one → a * h / b ≤ 2 ^ 1066
part-le a b h B s l = quotient_le (a * h) b (2 ^ 1066) B (le_trans (mul-le-mul_left a l) (le_trans (le_of_eq (sym (mul_assoc a 256 (2 ^ 1066)))) (le_trans (mul-le-mul_right (2 ^ 1066) s) (le_of_eq (mul_comm b (2 ^ 1066))))))

pub ln1p-le : (k a b : ℕ) → 0 < b → a * 256 ≤ b → ln1p k a b ≤ 2 ^ 1066
unfolding ln1p
ln1p-le k a b B s = part-le a b (nested k 1 a b) B s (nested-le k 1 a b)

-- r further terms
nested-more : (k r i a b d : ℕ) → 0 < b → a * 256 ≤ b → units_in_one ≤ 256 ^ k * d → Within d (nested (k + r) i a b) (nested k i a b)
unfolding nested
nested-more zero r i a b d B s h = subst (λ (n : ℕ). Within d (nested n i a b) 0) (sym (zero-add r)) (record { over = le_trans (nested-le r i a b) (le_trans h (le_of_eq (one-mul d ∙ sym (zero-add d)))); under = zero-le })
nested-more (suc k) r i a b d B s h =
    subst (λ (n : ℕ). Within d (nested n i a b) (nested (suc k) i a b)) (sym (suc-add k r))
    (taken-off (units_in_one / i) (scaled 256 a b d B s (nested-more k r (suc i) a b (256 * d) B s (le_trans h (le_of_eq (ap (λ (z : ℕ). z * d) (pow-suc 256 k) ∙ mul_assoc (256 ^ k) 256 d))))))

ln1p-more : (k r a b d : ℕ) → 0 < b → a * 256 ≤ b → units_in_one ≤ 256 ^ k * (256 * d) → Within d (ln1p (k + r) a b) (ln1p k a b)
unfolding ln1p
ln1p-more k r a b d B s h = scaled 256 a b d B s (nested-more k r 1 a b (256 * d) B s h)

pub ratio-more : (k r n j d : ℕ) → 256 ≤ n → units_in_one ≤ 256 ^ k * (256 * d) → Within (j * d) (ln_ratio (k + r) n j) (ln_ratio k n j)
unfolding ln_ratio
ratio-more k r n zero d N h = record { over = zero-le; under = zero-le }
ratio-more k r n (suc j) d N h =
    subst (λ (z : ℕ). Within z (ln_ratio (k + r) n (suc j)) (ln_ratio k n (suc j))) (sym (suc-mul j d))
    (plus (ratio-more k r n j d N h) (ln1p-more k r 1 (n + j) d (omega arith) (omega arith) h))

-- a longer ratio is no smaller
pub ratio-mono : (k n i j : ℕ) → i ≤ j → ln_ratio k n i ≤ ln_ratio k n j
unfolding ln_ratio
ratio-mono k n i j h = subst (λ (z : ℕ). ln_ratio k n i ≤ ln_ratio k n z) (add-sub_of_le h) (go (j - i))
  where
    go : (d : ℕ) → ln_ratio k n i ≤ ln_ratio k n (i + d)
    go zero = subst (λ (z : ℕ). ln_ratio k n i ≤ ln_ratio k n z) (sym (add-zero i)) (le_refl (ln_ratio k n i))
    go (suc d) = subst (λ (z : ℕ). ln_ratio k n i ≤ ln_ratio k n z) (sym (add-suc i d)) (le_trans (go d) (le-add_right (ln_ratio k n (i + d)) (ln1p k 1 (n + (i + d)))))
