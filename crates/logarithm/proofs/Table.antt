-- The entries of the table, against the series at every number of terms from 12 on, and how large they are. Assumes nothing.
use Rattle.std.proofs.Common.{◌≡◌, ℕ, ◌+◌, ◌*◌, ◌/◌, ◌^◌, ◌<◌, ◌≤◌, refl, le_trans, le_of_eq, le_refl, le_of_suc-le-suc, lt_of_le_of_lt, add-le-add, mul-le-mul_right, mod-lt, div-mul-le_self, arith, lit<, lit≤}
use native.Mathlib.Nat.{lt-div-mul-add}
use lib.Ieee.Nearest.{div_mono}
use Rattle.rounding.specs.Near.{Within}
use Rattle.rounding.proofs.Within.{then, widen}
use Rattle.logarithm.specs.Series.{nested, ln1p, ln_ratio, ln_entry, entry_of}
use Rattle.logarithm.specs.Steps.{quotient_of, remainder_of}
use Rattle.logarithm.proofs.Terms.{ratio-more, ratio-mono}

-- a number rounded to the nearest multiple of z, which is h + h
halved : (s h z w : ℕ) → h + h ≡ z → w * z ≤ s + h → s + h < w * z + z → Within h s (w * z)
halved s h z w e a b = record { over = omega arith; under = omega arith }

pub entry-near : (r j : ℕ) → j < 257 → Within (2 ^ 980 + 2 ^ 1003) (ln_entry (12 + r) j) (entry_of j * 2 ^ 1004)
unfolding entry_of
entry-near r j h =
    then {d = 2 ^ 980} (widen (le_trans (mul-le-mul_right (2 ^ 970) (le_of_suc-le-suc h)) (lit≤ tt)) (ratio-more 12 r 256 j (2 ^ 970) (lit≤ tt) (lit≤ tt)))
    (halved (ln_entry 12 j) (2 ^ 1003) (2 ^ 1004) (entry_of j) refl (div-mul-le_self (ln_entry 12 j + 2 ^ 1003) (2 ^ 1004)) (lt-div-mul-add (lit< tt)))

-- ---- the last entry, computed, bounds all
pub last-quotient : quotient_of 256 ≡ 6096987078286
unfolding entry_of ln_ratio ln1p nested
last-quotient = refl

pub last-remainder : remainder_of 256 ≡ 64908018
unfolding entry_of ln_ratio ln1p nested
last-remainder = refl

pub first-quotient : quotient_of 0 ≡ 0
unfolding entry_of ln_ratio
first-quotient = refl

div-le : (a b c : ℕ) → 0 < c → a ≤ b → a / c ≤ b / c
div-le a b c C h = div_mono a c b c C C (mul-le-mul_right c h)

pub quotient-lt : (j : ℕ) → j < 257 → quotient_of j < 6096987078287
unfolding entry_of
quotient-lt j h =
    let s = div-le (ln_entry 12 j + 2 ^ 1003) (ln_entry 12 256 + 2 ^ 1003) (2 ^ 1004) (lit< tt) (add-le-add (ratio-mono 12 256 j 256 (le_of_suc-le-suc h)) (le_refl (2 ^ 1003))) in
    lt_of_le_of_lt (le_trans (div-le (entry_of j) (entry_of 256) (2 ^ 27) (lit< tt) s) (le_of_eq last-quotient)) (lit< tt)

pub remainder-lt : (j : ℕ) → remainder_of j < 134217728
remainder-lt j = mod-lt (entry_of j) (lit< tt)
