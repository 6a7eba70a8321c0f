-- The rule of the tables: one test, which antt computes over both, with the sum of the neighbours' differences carried along, says it of each entry. Assumes nothing.
use Rattle.std.proofs.Common.{◌≡◌, ℕ, zero, suc, ◌+◌, ◌-◌, ◌*◌, ◌/◌, ◌%◌, ◌^◌, ◌<◌, ◌≤◌, Bool, true, false, ◌&&◌, T, ltb, leb, List, [], ◌∷◌, length, get_or, sym, refl, ap, ◌∙◌, subst, ap₂, le_trans, le_of_suc-le-suc, not-suc-le-zero, add-zero, add-suc, mul-le-mul_right, add-mul, add-sub_of_le, suc-add, one-mul, zero-add, arith, lit<, lit≤, ltb→lt, leb→le, ext_get_or}
use native.Mathlib.Nat.{div-eq_of_lt-le}
use lib.Arith.{digits_div, digits_mod}
use lib.Ieee.{Float, nan, inf, fin, up, down}
use lib.Ieee.Fits.{and_l, and_r}
use Rattle.lists.specs.Build.{build, from as range}
use Rattle.lists.proofs.Filling.{length-build, get_or-build}
use Rattle.rounding.specs.Units.{whole}
use Rattle.rounding.specs.Near.{Within}
use Rattle.logarithm.specs.Series.{ln1p, ln_ratio, ln_entry, entry_of}
use Rattle.logarithm.specs.Steps.{quotient_of, remainder_of}
use Rattle.logarithm.specs.Error.{NearestEntry, Tabled}
use Rattle.logarithm.proofs.Terms.{ratio-more}

-- the entry of quotient q and remainder r is within a half, less 2 ^ -10, of s
abbrev near : ℕ → ℕ → ℕ → Bool
near q r s =
    let w = (q * 2 ^ 27 + r) * 2 ^ 1004 in
    ltb r (2 ^ 27) && (leb (s + 2 ^ 994) (w + 2 ^ 1003) && leb (w + 2 ^ 994) (s + 2 ^ 1003))

-- each entry from place i on is so of the sum s up to its place
abbrev pub every : ℕ → ℕ → List ℕ → List ℕ → Bool
every i s [] rs = true
every i s (q ∷ qs) [] = false
every i s (q ∷ qs) (r ∷ rs) = near q r s && every (suc i) (s + ln1p 12 1 (256 + i)) qs rs

from : (qs rs : List ℕ) (i s : ℕ) → ln_entry 12 i ≡ s → T (every i s qs rs) → (j : ℕ) → j < length qs → T (near (get_or qs j 0) (get_or rs j 0) (ln_entry 12 (i + j)))
unfolding ln_ratio
from [] rs i s e t j h = absurd (not-suc-le-zero h)
from (q ∷ qs) [] i s e t j h = absurd t
from (q ∷ qs) (r ∷ rs) i s e t zero h = subst (λ (z : ℕ). T (near q r z)) (sym e ∙ ap (ln_ratio 12 256) (sym (add-zero i))) (and_l (near q r s) (every (suc i) (s + ln1p 12 1 (256 + i)) qs rs) t)
from (q ∷ qs) (r ∷ rs) i s e t (suc j) h =
    subst (λ (z : ℕ). T (near (get_or qs j 0) (get_or rs j 0) (ln_ratio 12 256 z))) (suc-add i j ∙ sym (add-suc i j))
    (from qs rs (suc i) (s + ln1p 12 1 (256 + i)) (ap (λ (z : ℕ). z + ln1p 12 1 (256 + i)) e) (and_r (near q r s) (every (suc i) (s + ln1p 12 1 (256 + i)) qs rs) t) j (le_of_suc-le-suc h))

-- what the test says of an entry, with its powers of two as variables: `omega` takes no number of more than 38 digits
record Tested (w s g h : ℕ) : Type 0 where
  low : s + g ≤ w + h
  high : w + g ≤ s + h

tested : (q r s : ℕ) → T (near q r s) → (r < 2 ^ 27) × Tested ((q * 2 ^ 27 + r) * 2 ^ 1004) s (2 ^ 994) (2 ^ 1003)
tested q r s t =
    let w = (q * 2 ^ 27 + r) * 2 ^ 1004 in
    let a = ltb r (2 ^ 27) in
    let b = leb (s + 2 ^ 994) (w + 2 ^ 1003) in
    let c = leb (w + 2 ^ 994) (s + 2 ^ 1003) in
    let bc : T (b && c) = and_r a (b && c) t in
    (ltb→lt r (2 ^ 27) (and_l a (b && c) t), record { low = leb→le (s + 2 ^ 994) (w + 2 ^ 1003) (and_l b c bc); high = leb→le (w + 2 ^ 994) (s + 2 ^ 1003) (and_r b c bc) })

-- it is the nearest whole number at 12 terms ..
rounded : (w s : ℕ) → Tested (w * 2 ^ 1004) s (2 ^ 994) (2 ^ 1003) → (s + 2 ^ 1003) / 2 ^ 1004 ≡ w
rounded w s t = div-eq_of_lt-le (2 ^ 1004) (low (w * 2 ^ 1004) (2 ^ 994) (2 ^ 1003) t) (subst (λ (z : ℕ). s + 2 ^ 1003 < z) (sym (add-mul w 1 (2 ^ 1004) ∙ ap (λ (z : ℕ). w * 2 ^ 1004 + z) (one-mul (2 ^ 1004)))) (high (w * 2 ^ 1004) (2 ^ 994) (2 ^ 1003) (2 ^ 1004) (lit< tt) refl t))
  where
    low : (w g h : ℕ) → Tested w s g h → w ≤ s + h
    low w g h t = omega (arith, t.high)

    high : (w g h z : ℕ) → 0 < g → h + h ≡ z → Tested w s g h → s + h < w + z
    high w g h z p q t = omega (arith, t.low)

-- .. and at more
nearest : (j w : ℕ) → j < 257 → Tested (w * 2 ^ 1004) (ln_entry 12 j) (2 ^ 994) (2 ^ 1003) → NearestEntry j w
nearest j w h t = record { near = λ k l. subst (λ (z : ℕ). Within (2 ^ 1003 - 2 ^ 993) (ln_entry z j) (w * 2 ^ 1004)) (add-sub_of_le l) (at (k - 12)) }
  where
    done : (s s' w z h g y h' : ℕ) → Tested w s g h → Within z s' s → z ≤ y → h + y ≤ h' + g → Within h' s' w
    done s s' w z h g y h' t m c d = record { over = omega (arith, t.low, m.over); under = omega (arith, t.high, m.under) }

    at : (r : ℕ) → Within (2 ^ 1003 - 2 ^ 993) (ln_entry (12 + r) j) (w * 2 ^ 1004)
    at r = done (ln_entry 12 j) (ln_entry (12 + r) j) (w * 2 ^ 1004) (j * 2 ^ 970) (2 ^ 1003) (2 ^ 994) (2 ^ 980) (2 ^ 1003 - 2 ^ 993) t (ratio-more 12 r 256 j (2 ^ 970) (lit≤ tt) (lit≤ tt)) (le_trans (mul-le-mul_right (2 ^ 970) (le_of_suc-le-suc h)) (lit≤ tt)) (lit≤ tt)

-- the whole numbers of two tables that pass
record Digits (qs rs : List ℕ) : Type 0 where
  quotients : qs ≡ build 257 quotient_of
  remainders : rs ≡ build 257 remainder_of
  nearest : (j : ℕ) → j < 257 → NearestEntry j (get_or qs j 0 * 2 ^ 27 + get_or rs j 0)

digits : (qs rs : List ℕ) → T (every 0 0 qs rs) → length qs ≡ 257 → length rs ≡ 257 → Digits qs rs
unfolding entry_of ln_ratio
digits qs rs t a b = record {
  quotients = ext_get_or 0 qs (build 257 quotient_of) (a ∙ sym (length-build 257 quotient_of)) (λ j h. let l : j < 257 = omega arith in sym (get_or-build 0 257 j quotient_of l ∙ ap (λ (w : ℕ). w / 2 ^ 27) (is j l) ∙ digits_div (get_or qs j 0) (at j l).0));
  remainders = ext_get_or 0 rs (build 257 remainder_of) (b ∙ sym (length-build 257 remainder_of)) (λ j h. let l : j < 257 = omega arith in sym (get_or-build 0 257 j remainder_of l ∙ ap (λ (w : ℕ). w % 2 ^ 27) (is j l) ∙ digits_mod (get_or qs j 0) (at j l).0));
  nearest = λ j l. nearest j (get_or qs j 0 * 2 ^ 27 + get_or rs j 0) l (at j l).1;
}
  where
    at : (j : ℕ) → j < 257 → (get_or rs j 0 < 2 ^ 27) × Tested ((get_or qs j 0 * 2 ^ 27 + get_or rs j 0) * 2 ^ 1004) (ln_entry 12 j) (2 ^ 994) (2 ^ 1003)
    at j h = tested (get_or qs j 0) (get_or rs j 0) (ln_entry 12 j) (subst (λ (z : ℕ). T (near (get_or qs j 0) (get_or rs j 0) (ln_ratio 12 256 z))) (zero-add j) (from qs rs 0 0 refl t j (omega arith)))

    is : (j : ℕ) → j < 257 → entry_of j ≡ get_or qs j 0 * 2 ^ 27 + get_or rs j 0
    is j h = rounded (get_or qs j 0 * 2 ^ 27 + get_or rs j 0) (ln_entry 12 j) (at j h).1

-- a number that is whole, as such
abbrev pub whole_of : Float → ℕ
whole_of nan = 0
whole_of (inf s) = 0
whole_of (fin s m e) = m * up e / down e

abbrev pub wholes : List Float → List ℕ
wholes [] = []
wholes (x ∷ xs) = whole_of x ∷ wholes xs

-- and back
abbrev pub floats : List ℕ → List Float
floats [] = []
floats (n ∷ ns) = whole n ∷ floats ns

length-wholes : (l : List Float) → length (wholes l) ≡ length l
length-wholes [] = refl
length-wholes (x ∷ xs) = ap suc (length-wholes xs)

floats-from : (i k : ℕ) (f : ℕ → ℕ) → floats (range i k f) ≡ range i k (λ j. whole (f j))
unfolding range
floats-from i zero f = refl
floats-from i (suc k) f = ap (λ (l : List Float). whole (f i) ∷ l) (floats-from (suc i) k f)

floats-build : (l : List ℕ) (f : ℕ → ℕ) → l ≡ build 257 f → floats l ≡ build 257 (λ j. whole (f j))
unfolding build
floats-build l f e = ap floats e ∙ floats-from 0 257 f

pub tabled : (q r : List Float) → T (every 0 0 (wholes q) (wholes r)) → length q ≡ 257 → length r ≡ 257 → q ≡ floats (wholes q) → r ≡ floats (wholes r) → Tabled q r
tabled q r t a b e f =
    let d = digits (wholes q) (wholes r) t (length-wholes q ∙ a) (length-wholes r ∙ b) in
    let quotient : (j : ℕ) → j < 257 → get_or (wholes q) j 0 ≡ quotient_of j = λ j h. ap (λ (l : List ℕ). get_or l j 0) d.quotients ∙ get_or-build 0 257 j quotient_of h in
    let remainder : (j : ℕ) → j < 257 → get_or (wholes r) j 0 ≡ remainder_of j = λ j h. ap (λ (l : List ℕ). get_or l j 0) d.remainders ∙ get_or-build 0 257 j remainder_of h in
    record {
      quotients = e ∙ floats-build (wholes q) quotient_of d.quotients;
      remainders = f ∙ floats-build (wholes r) remainder_of d.remainders;
      nearest = λ j h. subst (NearestEntry j) (ap₂ (λ (x y : ℕ). x * 2 ^ 27 + y) (quotient j h) (remainder j h)) (d.nearest j h);
    }
