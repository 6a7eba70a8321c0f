-- The operations on numbers, by the fractions that their operands equal. Assumes nothing.
use mathlib.Core.Path.{◌≡◌, sym, ap, ◌∙◌, subst}
use mathlib.Core.Bool.{Bool, true, false, not, cond}
use Prim.Native.Nat.{ℕ, ◌+◌, ◌-◌, ◌*◌, ◌≤◌, ◌<◌}
use native.Mathlib.Nat.{le_trans, le_of_eq, lt_of_lt_of_le, lt_of_le_of_lt, lt_irrefl, add-mul, mul_comm, mul_assoc, mul_right_comm, mul-mul-mul_comm, mul-le-mul_right, mul-lt-mul_of_pos_right, le_of_mul-le-mul_right, lt_of_mul-lt-mul_right, mul-pos, mul-sub, eq_of_mul-eq-mul_right}
use native.Mathlib.Omega.{arith}
use lib.Dec.{T, ltb, eqb, ltb→lt, nltb→le, eqb→eq}
use lib.Ieee.{Float, nan, inf, fin, binary64, unlike, up, down, round, sum, add, sub, mul, div, neg}
use lib.Ieee.Fits.{down_pos}
use lib.Ieee.Exact.{HasValue}
use lib.Ieee.Scale.{round_same}
use lib.Ieee.Positive.{first_pos}
use Rattle.rounding.specs.Near.{plus_part, minus_part}

-- from one fraction to another of the same size
pub rescale : (x : Float) (s : Bool) (a c b d : ℕ) → 0 < c → a * d ≡ b * c → HasValue x s a c → HasValue x s b d
rescale nan s a c b d C e h = h
rescale (inf t) s a c b d C e h = h
rescale (fin t m g) s a c b d C e h = (
  h.0,
  eq_of_mul-eq-mul_right c C (m * up g * d) (b * down g)
      (mul_right_comm (m * up g) d c ∙ ap (λ (z : ℕ). z * d) h.1 ∙ mul_right_comm a (down g) d ∙ ap (λ (z : ℕ). z * down g) e ∙ mul_right_comm b c (down g)),
)

-- ---- products and quotients
pub mul_at : (x y : Float) (s t : Bool) (a c b d : ℕ) → 0 < c → 0 < d → HasValue x s a c → HasValue y t b d → mul binary64 x y ≡ round binary64 (unlike s t) (a * b) (c * d)
unfolding mul
mul_at nan y s t a c b d C D h k = absurd h
mul_at (inf r) y s t a c b d C D h k = absurd h
mul_at (fin r m e) nan s t a c b d C D h k = absurd k
mul_at (fin r m e) (inf q) s t a c b d C D h k = absurd k
mul_at (fin r m e) (fin q n g) s t a c b d C D h k =
    ap (λ (z : Bool). round binary64 (unlike z q) (m * up e * (n * up g)) (down e * down g)) h.0
    ∙ ap (λ (z : Bool). round binary64 (unlike s z) (m * up e * (n * up g)) (down e * down g)) k.0
    ∙ round_same binary64 (unlike s t) (m * up e * (n * up g)) (down e * down g) (a * b) (c * d) (mul-pos (down_pos e) (down_pos g)) (mul-pos C D)
    (mul-mul-mul_comm (m * up e) (n * up g) c d ∙ ap (λ (z : ℕ). z * (n * up g * d)) h.1 ∙ ap (λ (z : ℕ). a * down e * z) k.1 ∙ mul-mul-mul_comm a (down e) b (down g))

pub div-at : (x y : Float) (s t : Bool) (a c b d : ℕ) → 0 < c → 0 < d → 0 < b → HasValue x s a c → HasValue y t b d → div binary64 x y ≡ round binary64 (unlike s t) (a * d) (b * c)
unfolding div
div-at nan y s t a c b d C D B h k = absurd h
div-at (inf r) y s t a c b d C D B h k = absurd h
div-at (fin r m e) nan s t a c b d C D B h k = absurd k
div-at (fin r m e) (inf q) s t a c b d C D B h k = absurd k
div-at (fin r m e) (fin q n g) s t a c b d C D B h k =
    go (eqb n 0) (eqb→eq n 0)
  where
    N : 0 < n * up g
    N = first_pos (n * up g) d (subst (λ (z : ℕ). 0 < z) (sym k.1) (mul-pos B (down_pos g)))

    value : round binary64 (unlike r q) (m * up e * down g) (n * up g * down e) ≡ round binary64 (unlike s t) (a * d) (b * c)
    value =
        ap (λ (z : Bool). round binary64 (unlike z q) (m * up e * down g) (n * up g * down e)) h.0
        ∙ ap (λ (z : Bool). round binary64 (unlike s z) (m * up e * down g) (n * up g * down e)) k.0
        ∙ round_same binary64 (unlike s t) (m * up e * down g) (n * up g * down e) (a * d) (b * c) (mul-pos N (down_pos e)) (mul-pos B C)
        (ap (λ (z : ℕ). m * up e * down g * z) (mul_comm b c) ∙ mul-mul-mul_comm (m * up e) (down g) c b ∙ ap (λ (z : ℕ). z * (down g * b)) h.1
        ∙ ap (λ (z : ℕ). a * down e * z) (mul_comm (down g) b ∙ sym k.1) ∙ ap (λ (z : ℕ). a * down e * z) (mul_comm (n * up g) d) ∙ mul-mul-mul_comm a (down e) d (n * up g) ∙ ap (λ (z : ℕ). a * d * z) (mul_comm (down e) (n * up g)))

    go : (b' : Bool) → (T b' → n ≡ 0) → cond b' (cond (eqb m 0) nan (inf (unlike r q))) (round binary64 (unlike r q) (m * up e * down g) (n * up g * down e)) ≡ round binary64 (unlike s t) (a * d) (b * c)
    go true f = absurd (lt_irrefl 0 (subst (λ (z : ℕ). 0 < z) (f tt) (first_pos n (up g) N)))
    go false f = value

-- ---- sums
pub record Sum (z : Float) (s : Bool) (a : ℕ) (t : Bool) (b c : ℕ) : Type 0 where
  pub sign : Bool
  pub count : ℕ
  pub is : z ≡ round binary64 sign count c
  pub total : plus_part sign count + minus_part s a + minus_part t b ≡ minus_part sign count + plus_part s a + plus_part t b

module _ (A B C a b c : ℕ) (Cp : 0 < C) (cp : 0 < c) (p : A * c ≡ a * C) (q : B * c ≡ b * C) where
  order_le : A ≤ B → a ≤ b
  order_le h = le_of_mul-le-mul_right (le_trans (le_of_eq (sym p)) (le_trans (mul-le-mul_right c h) (le_of_eq q))) Cp

  order_lt : A < B → a < b
  order_lt h = lt_of_mul-lt-mul_right C (lt_of_le_of_lt (le_of_eq (sym p)) (lt_of_lt_of_le (mul-lt-mul_of_pos_right h cp) (le_of_eq q)))

  together : (s : Bool) → round binary64 s (A + B) C ≡ round binary64 s (a + b) c
  together s = round_same binary64 s (A + B) C (a + b) c Cp cp (add-mul A B c ∙ ap (λ (z : ℕ). z + B * c) p ∙ ap (λ (z : ℕ). a * C + z) q ∙ sym (add-mul a b C))

  apart : (s : Bool) → round binary64 s (B - A) C ≡ round binary64 s (b - a) c
  apart s = round_same binary64 s (B - A) C (b - a) c Cp cp (mul_comm (B - A) c ∙ mul-sub c B A ∙ ap (λ (z : ℕ). z - c * A) (mul_comm c B ∙ q ∙ mul_comm b C) ∙ ap (λ (z : ℕ). C * b - z) (mul_comm c A ∙ p ∙ mul_comm a C) ∙ sym (mul-sub C b a) ∙ mul_comm C (b - a))

pub sum-at : (s : Bool) (A : ℕ) (t : Bool) (B C a b c : ℕ) → 0 < C → 0 < c → A * c ≡ a * C → B * c ≡ b * C → Sum (sum binary64 s A t B C) s a t b c
unfolding sum
sum-at false A false B C a b c Cp cp p q = record { sign = false; count = a + b; is = together A B C a b c Cp cp p q false; total = omega arith }
sum-at true A true B C a b c Cp cp p q = record { sign = true; count = a + b; is = together A B C a b c Cp cp p q true; total = omega arith }
sum-at false A true B C a b c Cp cp p q = go (ltb A B) (ltb→lt A B) (nltb→le A B)
  where
    go : (g : Bool) → (T g → A < B) → (T (not g) → B ≤ A) → Sum (cond g (round binary64 true (B - A) C) (round binary64 false (A - B) C)) false a true b c
    go true l n = let o = order_lt A B C a b c Cp cp p q (l tt) in record { sign = true; count = b - a; is = apart A B C a b c Cp cp p q true; total = omega arith }
    go false l n = let o = order_le B A C b a c Cp cp q p (n tt) in record { sign = false; count = a - b; is = apart B A C b a c Cp cp q p false; total = omega arith }
sum-at true A false B C a b c Cp cp p q = go (ltb A B) (ltb B A) (ltb→lt A B) (nltb→le A B) (ltb→lt B A) (nltb→le B A)
  where
    go : (g k : Bool) → (T g → A < B) → (T (not g) → B ≤ A) → (T k → B < A) → (T (not k) → A ≤ B) → Sum (cond g (round binary64 false (B - A) C) (round binary64 k (A - B) C)) true a false b c
    go true k l n l' n' = let o = order_lt A B C a b c Cp cp p q (l tt) in record { sign = false; count = b - a; is = apart A B C a b c Cp cp p q false; total = omega arith }
    go false true l n l' n' = let o = order_le B A C b a c Cp cp q p (n tt) in record { sign = true; count = a - b; is = apart B A C b a c Cp cp q p true; total = omega arith }
    go false false l n l' n' =
        let o = order_le B A C b a c Cp cp q p (n tt) in
        let o' = order_le A B C a b c Cp cp p q (n' tt) in
        record { sign = false; count = a - b; is = apart B A C b a c Cp cp q p false; total = omega arith }

pub add_at : (x y : Float) (s t : Bool) (a b c : ℕ) → 0 < c → HasValue x s a c → HasValue y t b c → Sum (add binary64 x y) s a t b c
unfolding add
add_at nan y s t a b c C h k = absurd h
add_at (inf r) y s t a b c C h k = absurd h
add_at (fin r m e) nan s t a b c C h k = absurd k
add_at (fin r m e) (inf q) s t a b c C h k = absurd k
add_at (fin r m e) (fin q n g) s t a b c C h k =
    subst (λ (z : Bool). Sum (sum binary64 z (m * up e * down g) q (n * up g * down e) (down e * down g)) s a t b c) (sym h.0)
    (subst (λ (z : Bool). Sum (sum binary64 s (m * up e * down g) z (n * up g * down e) (down e * down g)) s a t b c) (sym k.0)
    (sum-at s (m * up e * down g) t (n * up g * down e) (down e * down g) a b c (mul-pos (down_pos e) (down_pos g)) C
    (mul_right_comm (m * up e) (down g) c ∙ ap (λ (z : ℕ). z * down g) h.1 ∙ mul_assoc a (down e) (down g))
    (mul_right_comm (n * up g) (down e) c ∙ ap (λ (z : ℕ). z * down e) k.1 ∙ mul_right_comm b (down g) (down e) ∙ mul_assoc b (down e) (down g))))

pub neg_value : (x : Float) (s : Bool) (a c : ℕ) → HasValue x s a c → HasValue (neg x) (not s) a c
unfolding neg
neg_value nan s a c h = absurd h
neg_value (inf r) s a c h = absurd h
neg_value (fin r m e) s a c h = (ap not h.0, h.1)

pub sub_at : (x y : Float) (s t : Bool) (a b c : ℕ) → 0 < c → HasValue x s a c → HasValue y t b c → Sum (sub binary64 x y) s a (not t) b c
unfolding sub
sub_at x y s t a b c C h k = add_at x (neg y) s (not t) a b c C h (neg_value y t b c k)
