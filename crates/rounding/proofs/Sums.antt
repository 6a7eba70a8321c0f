-- Sums of numbers that are near known ones: each error stays, and one rounding is added. Assumes nothing.
use mathlib.Core.Path.{◌≡◌, sym, subst}
use mathlib.Core.Bool.{Bool, true, false, not}
use Prim.Native.Nat.{ℕ, ◌+◌, ◌^◌, ◌≤◌, ◌<◌}
use native.Mathlib.Nat.{add_comm, mul-lt-mul_of_pos_right}
use native.Mathlib.Omega.{arith}
use lib.Pow.{pow_pos}
use lib.Ieee.{Float, binary64, add, sub, neg}
use lib.Ieee.Exact.{HasValue}
use Rattle.rounding.specs.Units.{units_in_one}
use Rattle.rounding.specs.Near.{Within, Near, plus_part, minus_part}
use Rattle.rounding.proofs.Within.{of_eq, cancel, widen}
use Rattle.rounding.proofs.Rounded.{round-near}
use Rattle.rounding.proofs.Operations.{Sum, add_at, neg_value}

-- a number is near itself
pub own : (x : Float) (s : Bool) (a : ℕ) → HasValue x s a units_in_one → Near 0 x (plus_part s a) (minus_part s a)
own x s a h = record { sign = s; count = a; value = h; close = of_eq (add_comm (plus_part s a) (minus_part s a)) }

pub loosen : {d e p n : ℕ} {x : Float} → d ≤ e → Near d x p n → Near e x p n
loosen l a = record { sign = a.sign; count = a.count; value = a.value; close = widen l a.close }

-- another known number, p' - n', in place of the first
pub shift : {d e p n p' n' : ℕ} {x : Float} → Near d x p n → Within e (p + n') (p' + n) → Near (d + e) x p' n'
shift {d} {e} {p} {n} {p'} {n'} a h = record { sign = a.sign; count = a.count; value = a.value; close = go (plus_part a.sign a.count) (minus_part a.sign a.count) a.close }
  where
    go : (A B : ℕ) → Within d (A + n) (B + p) → Within (d + e) (A + n') (B + p')
    go A B w = record { over = omega (arith, w.over, h.over); under = omega (arith, w.under, h.under) }

pub neg-near : {d p n : ℕ} {x : Float} → Near d x p n → Near d (neg x) n p
neg-near {d} {p} {n} {x} a = record { sign = not a.sign; count = a.count; value = neg_value x a.sign a.count units_in_one a.value; close = go a.sign a.count a.close }
  where
    go : (s : Bool) (v : ℕ) → Within d (plus_part s v + n) (minus_part s v + p) → Within d (plus_part (not s) v + p) (minus_part (not s) v + n)
    go false v h = record { over = omega (arith, h.under); under = omega (arith, h.over) }
    go true v h = record { over = omega (arith, h.under); under = omega (arith, h.over) }

-- a sum of less than 2 ^ (53 + k) units in size
pub add-near : (x y : Float) (d e p n p' n' k : ℕ) → Near d x p n → Near e y p' n' → k ≤ 2000 → p + p' + d + e < n + n' + 2 ^ (53 + k) → n + n' + d + e < p + p' + 2 ^ (53 + k) → Near (d + e + 2 ^ k) (add binary64 x y) (p + p') (n + n')
add-near x y d e p n p' n' k X Y K u l = go (add_at x y X.sign Y.sign X.count Y.count units_in_one (pow_pos 1074) X.value Y.value)
  where
    small : (g : Bool) (v P N P' N' B : ℕ) → plus_part g v + N + N' ≡ minus_part g v + P + P' → Within d (P + n) (N + p) → Within e (P' + n') (N' + p') → p + p' + d + e < n + n' + B → n + n' + d + e < p + p' + B → v < B
    small false v P N P' N' B t h k a b = omega (arith, h.over, k.over)
    small true v P N P' N' B t h k a b = omega (arith, h.under, k.under)

    ends : (g : Bool) (v w P N P' N' B : ℕ) → plus_part g v + N + N' ≡ minus_part g v + P + P' → Within d (P + n) (N + p) → Within e (P' + n') (N' + p') → Within B w v → Within (d + e + B) (plus_part g w + (n + n')) (minus_part g w + (p + p'))
    ends false v w P N P' N' B t h k m = record { over = omega (arith, h.over, k.over, m.over); under = omega (arith, h.under, k.under, m.under) }
    ends true v w P N P' N' B t h k m = record { over = omega (arith, h.over, k.over, m.under); under = omega (arith, h.under, k.under, m.over) }

    go : Sum (add binary64 x y) X.sign X.count Y.sign Y.count units_in_one → Near (d + e + 2 ^ k) (add binary64 x y) (p + p') (n + n')
    go S =
        let v = S.count in
        let xp = plus_part X.sign X.count in
        let xm = minus_part X.sign X.count in
        let yp = plus_part Y.sign Y.count in
        let ym = minus_part Y.sign Y.count in
        let under : v < 2 ^ (53 + k) = small S.sign v xp xm yp ym (2 ^ (53 + k)) S.total X.close Y.close u l in
        let r = round-near S.sign v units_in_one k (pow_pos 1074) K (mul-lt-mul_of_pos_right under (pow_pos 1074)) in
        record {
          sign = S.sign;
          count = r.count;
          value = subst (λ (z : Float). HasValue z S.sign r.count units_in_one) (sym S.is) r.value;
          close = ends S.sign v r.count xp xm yp ym (2 ^ k) S.total X.close Y.close (cancel units_in_one (2 ^ k) r.count v (pow_pos 1074) r.close);
        }

pub sub-near : (x y : Float) (d e p n p' n' k : ℕ) → Near d x p n → Near e y p' n' → k ≤ 2000 → p + n' + d + e < n + p' + 2 ^ (53 + k) → n + p' + d + e < p + n' + 2 ^ (53 + k) → Near (d + e + 2 ^ k) (sub binary64 x y) (p + n') (n + p')
unfolding sub
sub-near x y d e p n p' n' k X Y K u l = add-near x (neg y) d e p n n' p' k X (neg-near Y) K u l
