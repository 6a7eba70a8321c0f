-- The magnitude as lanes work it out: by choices, with no branch. Assumes nothing.
use mathlib.Core.Path.{◌≡◌, refl, sym, ◌∙◌, ap, ap₂, subst}
use mathlib.Core.Bool.{Bool, true, false, not, cond, ◌&&◌, ◌||◌}
use Prim.Native.Nat.{ℕ, zero, suc, ◌+◌, ◌*◌, ◌<◌, ◌≤◌}
use native.Mathlib.Nat.{zero-mul, mul-pos, zero-lt-suc}
use native.Mathlib.Omega.{arith}
use lib.IntN.{ℤ, pos}
use lib.Dec.{T, ltb, eqb}
use lib.Lanes.{top, zip2, sel_l}
use lib.ListN.{length, replicate}
use mathlib.Core.List.{List, [], ◌∷◌, map}
use lib.Ieee as Ieee
use lib.Ieee.Fits.{up_pos, down_pos}
use lib.Ieee.{Float, nan, inf, fin, binary64, up, down, fits, lt, le, eq, neg, is_nan, of_bits}
use lib.Ieee.Bits.{is_true}
use Rattle.std.proofs.lemmas.Float.{le_of_not-lt}
use Rattle.numbers.specs.Number.{abs, max, negative, zero_f, one_f, ◌+ᶠ◌, ◌*ᶠ◌, ◌/ᶠ◌}
use Rattle.numbers.proofs.Leaves.{clash, only_nan}
use Rattle.numbers.proofs.Order.{not-above}
use Rattle.rounding.proofs.Zeros.{round-zero}
use borrow.Author.Tests.{lt-ltb, le-ltb, ltb-false, eq-eqb, ne_eqb}
use Rattle.root.specs.Root.{sqrt}
use Rattle.complex.specs.Arithmetic.{min, magnitude, magnitude_by}

-- ---- sizes

-- the size of x but for a -0, which stays as it is
abbrev sized : Float → Float
sized x = cond (lt x (neg x)) (neg x) x

only_zero : (m : ℕ) (e : ℤ) → m * up e * down e + m * up e * down e ≤ 0 → m ≡ 0
only_zero zero e h = refl
only_zero (suc m) e h = let p : 0 < suc m * up e * down e = mul-pos (mul-pos (zero-lt-suc m) (up_pos e)) (down_pos e) in absurd (omega arith)

-- what does not tell -0 from +0 does not tell this size from the size
same_size : {A : Type 0} (F : Float → A) → ((e : ℤ) → F (fin true 0 e) ≡ F (fin false 0 e)) → (x : Float) → F (sized x) ≡ F (abs x)
unfolding lt neg abs
same_size F z nan = refl
same_size F z (inf true) = refl
same_size F z (inf false) = refl
same_size F z (fin false m e) = refl
same_size F z (fin true m e) = go (ltb 0 (m * up e * down e + m * up e * down e)) refl
  where
    go : (b : Bool) → ltb 0 (m * up e * down e + m * up e * down e) ≡ b → F (cond b (fin false m e) (fin true m e)) ≡ F (fin false m e)
    go true h = refl
    go false h = subst (λ (k : ℕ). F (fin true k e) ≡ F (fin false k e)) (sym (only_zero m e (ltb-false 0 _ h))) (z e)

abs-positive : (x : Float) → negative (abs x) ≡ false
unfolding negative abs
abs-positive nan = refl
abs-positive (inf s) = refl
abs-positive (fin s m e) = refl

-- ---- comparisons with zeros

-- a positive number, and a negative one, beside zeros of both signs
plus_before : (a : ℕ) → (false || (eqb a 0 && (false || eqb a 0))) ≡ (ltb a 0 || (eqb a 0 && true))
plus_before zero = refl
plus_before (suc a) = rw (ne_eqb (suc a) 0 (λ e. omega arith), le-ltb (suc a) 0 (omega arith)) refl

minus_before : (a : ℕ) → (ltb 0 a || (eqb a 0 && true)) ≡ (ltb 0 (a + 0) || (eqb a 0 && (false || eqb a 0)))
minus_before zero = refl
minus_before (suc a) = rw (lt-ltb 0 (suc a) (omega arith), lt-ltb 0 (suc a + 0) (omega arith)) refl

plus_after : (a : ℕ) → (ltb 0 (0 + a) || (eqb 0 a && true)) ≡ (ltb 0 a || (eqb 0 a && true))
plus_after zero = refl
plus_after (suc a) = rw (lt-ltb 0 (suc a) (omega arith), lt-ltb 0 (0 + suc a) (omega arith)) refl

minus_after : (a : ℕ) → (ltb a 0 || (eqb 0 a && true)) ≡ (false || (eqb 0 a && true))
minus_after zero = refl
minus_after (suc a) = rw (le-ltb (suc a) 0 (omega arith)) refl

before-zero : (x : Float) (e : ℤ) → le x (fin true 0 e) ≡ le x (fin false 0 e)
unfolding le lt eq
before-zero nan e = refl
before-zero (inf s) e = refl
before-zero (fin false m d) e = rw (zero-mul (up e), zero-mul (down d)) (plus_before (m * up d * down e))
before-zero (fin true m d) e = rw (zero-mul (up e), zero-mul (down d)) (minus_before (m * up d * down e))

after-zero : (x : Float) (e : ℤ) → le (fin true 0 e) x ≡ le (fin false 0 e) x
unfolding le lt eq
after-zero nan e = refl
after-zero (inf s) e = refl
after-zero (fin false m d) e = rw (zero-mul (up e), zero-mul (down d)) (plus_after (m * up d * down e))
after-zero (fin true m d) e = rw (zero-mul (up e), zero-mul (down d)) (minus_after (m * up d * down e))

zero-equal : (t : Bool) (e : ℤ) → eq (fin t 0 e) zero_f ≡ true
unfolding eq of_bits
zero-equal true e = rw (zero-mul (down e), zero-mul (up e)) refl
zero-equal false e = rw (zero-mul (down e), zero-mul (up e)) refl

zeros : (s t : Bool) → fin s 0 (pos 0) *ᶠ fin s 0 (pos 0) ≡ fin t 0 (pos 0) *ᶠ fin t 0 (pos 0)
unfolding Ieee.mul
zeros true true = refl
zeros true false = refl
zeros false true = refl
zeros false false = refl

-- the square of a quotient of a zero
square : (x : Float) (e : ℤ) → (fin true 0 e /ᶠ x) *ᶠ (fin true 0 e /ᶠ x) ≡ (fin false 0 e /ᶠ x) *ᶠ (fin false 0 e /ᶠ x)
unfolding Ieee.div
square nan e = refl
square (inf t) e = zeros (Ieee.unlike true t) (Ieee.unlike false t)
square (fin t n d) e = rw (zero-mul (up e), zero-mul (down d)) (go (eqb n 0) refl)
  where
    go : (b : Bool) → eqb n 0 ≡ b
        → cond b nan (Ieee.round binary64 (Ieee.unlike true t) 0 (n * up d * down e)) *ᶠ cond b nan (Ieee.round binary64 (Ieee.unlike true t) 0 (n * up d * down e))
        ≡ cond b nan (Ieee.round binary64 (Ieee.unlike false t) 0 (n * up d * down e)) *ᶠ cond b nan (Ieee.round binary64 (Ieee.unlike false t) 0 (n * up d * down e))
    go true h = refl
    go false h =
        let some : 0 < n = pos_of n h in
        let p : 0 < n * up d * down e = mul-pos (mul-pos some (up_pos d)) (down_pos e) in
        rw (round-zero binary64 (Ieee.unlike true t) (n * up d * down e) p, round-zero binary64 (Ieee.unlike false t) (n * up d * down e) p) (zeros (Ieee.unlike true t) (Ieee.unlike false t))
      where
        pos_of : (k : ℕ) → eqb k 0 ≡ false → 0 < k
        pos_of zero h = clash (sym h)
        pos_of (suc k) h = omega arith

-- ---- the larger and the smaller of two sizes

-- what is no NaN equals itself
own-equal : (x : Float) → is_nan x ≡ false → eq x x ≡ true
unfolding eq is_nan
own-equal nan h = clash (sym h)
own-equal (inf true) h = refl
own-equal (inf false) h = refl
own-equal (fin true m e) h = rw (eq-eqb (m * up e * down e) (m * up e * down e) refl)
own-equal (fin false m e) h = rw (eq-eqb (m * up e * down e) (m * up e * down e) refl)

le-nan : (x : Float) → le x nan ≡ false
unfolding le
le-nan nan = refl
le-nan (inf s) = refl
le-nan (fin s m e) = refl

number_is : (x : Float) → is_nan x ≡ false → T (not (is_nan x))
number_is x h = subst (λ (b : Bool). T (not b)) (sym h) tt

-- of two numbers one is at most the other where the other is not below it
le-not-lt : (x y : Float) → is_nan x ≡ false → is_nan y ≡ false → le x y ≡ not (lt y x)
le-not-lt x y p q = go (lt y x) (le x y) refl refl
  where
    go : (u v : Bool) → lt y x ≡ u → le x y ≡ v → v ≡ not u
    go true true h k = clash (sym (not-above x y k) ∙ h)
    go true false h k = refl
    go false v h k = sym k ∙ is_true (le x y) (le_of_not-lt y x (number_is y q) (number_is x p) (subst (λ (b : Bool). T (not b)) (sym h) tt))

-- the one that is a number, where y is a NaN
abbrev other : Float → Float → Float
other x y = cond (eq y y) y x

same : {A : Type 0} (b : Bool) (x : A) → cond b x x ≡ x
same true x = refl
same false x = refl

by-not : {A : Type 0} (b : Bool) (x y : A) → cond (not b) x y ≡ cond b y x
by-not true x y = refl
by-not false x y = refl

larger-is : (x y : Float) → negative x ≡ false → cond (le (other x y) x) x (other x y) ≡ max x y
unfolding max le lt eq is_nan
larger-is x y n = go (is_nan x) (is_nan y) refl refl
  where
    go : (u v : Bool) → is_nan x ≡ u → is_nan y ≡ v
        → cond (le (cond (eq y y) y x) x) x (cond (eq y y) y x) ≡ cond (is_nan x) y (cond (is_nan y) x (cond (lt x y) y (cond (lt y x) x (cond (negative x) y x))))
    go true true h k = rw (only_nan x h, only_nan y k) refl
    go false true h k = rw (only_nan y k, h) (same (le x x) x)
    go true false h k = rw (own-equal y k, only_nan x h, le-nan y) refl
    go false false h k = rw (own-equal y k, h, k, n, le-not-lt y x k h) (by-not (lt x y) x y ∙ ap (λ (z : Float). cond (lt x y) y z) (sym (same (lt y x) x)))

smaller-is : (x y : Float) → cond (le x (other x y)) x (other x y) ≡ min x y
unfolding min le lt eq is_nan
smaller-is x y = go (is_nan x) (is_nan y) refl refl
  where
    go : (u v : Bool) → is_nan x ≡ u → is_nan y ≡ v
        → cond (le x (cond (eq y y) y x)) x (cond (eq y y) y x) ≡ cond (is_nan x) y (cond (is_nan y) x (cond (lt y x) y x))
    go true true h k = rw (only_nan x h, only_nan y k) refl
    go false true h k = rw (only_nan y k, h) (same (le x x) x)
    go true false h k = rw (own-equal y k, only_nan x h) refl
    go false false h k = rw (own-equal y k, h, k, le-not-lt x y h k) (by-not (lt y x) x y)

-- ---- the magnitude

-- by two sizes a and c, and whether c is at most a, and a at most c
abbrev chosen_by : Bool → Bool → Float → Float → Float
chosen_by u v a c =
    let m = cond u a c in
    let q = cond v a c /ᶠ m in
    cond (eq m zero_f) zero_f (m *ᶠ sqrt (one_f +ᶠ q *ᶠ q))

abbrev by_sizes : Float → Float → Float
by_sizes a b = let c = other a b in chosen_by (le c a) (le a c) a c

by-sizes : (x y : Float) → by_sizes (abs x) (abs y) ≡ magnitude_by x y
unfolding magnitude
by-sizes x y =
    ap₂ (λ (m s : Float). cond (eq m zero_f) zero_f (m *ᶠ sqrt (one_f +ᶠ (s /ᶠ m) *ᶠ (s /ᶠ m)))) (larger-is (abs x) (abs y) (abs-positive x)) (smaller-is (abs x) (abs y))

-- it does not tell -0 from +0
first-zero : (u v : Bool) (c : Float) (e : ℤ) → chosen_by u v (fin true 0 e) c ≡ chosen_by u v (fin false 0 e) c
first-zero true v c e = rw (zero-equal true e, zero-equal false e) refl
first-zero false true c e = ap (λ (w : Float). cond (eq c zero_f) zero_f (c *ᶠ sqrt (one_f +ᶠ w))) (square c e)
first-zero false false c e = refl

second-zero : (u v : Bool) (a : Float) (e : ℤ) → chosen_by u v a (fin true 0 e) ≡ chosen_by u v a (fin false 0 e)
second-zero true true a e = refl
second-zero true false a e = ap (λ (w : Float). cond (eq a zero_f) zero_f (a *ᶠ sqrt (one_f +ᶠ w))) (square a e)
second-zero false v a e = rw (zero-equal true e, zero-equal false e) refl

both-zero : (t : Bool) (u v : Bool) (e : ℤ) → chosen_by u v (fin t 0 e) (fin t 0 e) ≡ zero_f
both-zero t true v e = rw (zero-equal t e) refl
both-zero t false v e = rw (zero-equal t e) refl

first : (b : Float) (e : ℤ) → by_sizes (fin true 0 e) b ≡ by_sizes (fin false 0 e) b
first b e = go (eq b b)
  where
    go : (t : Bool) → chosen_by (le (cond t b (fin true 0 e)) (fin true 0 e)) (le (fin true 0 e) (cond t b (fin true 0 e))) (fin true 0 e) (cond t b (fin true 0 e))
        ≡ chosen_by (le (cond t b (fin false 0 e)) (fin false 0 e)) (le (fin false 0 e) (cond t b (fin false 0 e))) (fin false 0 e) (cond t b (fin false 0 e))
    go true = ap₂ (λ (u v : Bool). chosen_by u v (fin true 0 e) b) (before-zero b e) (after-zero b e) ∙ first-zero (le b (fin false 0 e)) (le (fin false 0 e) b) b e
    go false = both-zero true _ _ e ∙ sym (both-zero false _ _ e)

second : (a : Float) (e : ℤ) → by_sizes a (fin true 0 e) ≡ by_sizes a (fin false 0 e)
unfolding is_nan
second a e =
    rw (own-equal (fin true 0 e) refl, own-equal (fin false 0 e) refl)
    (ap₂ (λ (u v : Bool). chosen_by u v a (fin true 0 e)) (after-zero a e) (before-zero a e) ∙ second-zero (le (fin false 0 e) a) (le a (fin false 0 e)) a e)

by-lane : (x y : Float) → by_sizes (sized x) (sized y) ≡ magnitude_by x y
by-lane x y = same_size (λ a. by_sizes a (sized y)) (first (sized y)) x ∙ same_size (by_sizes (abs x)) (second (abs x)) y ∙ by-sizes x y

-- ---- all lanes

module _ (below level at_most : Float → Float → ℕ) (is_below : (x y : Float) → top 63 (below x y) ≡ lt x y) (is-level : (x y : Float) → top 63 (level x y) ≡ eq x y) (is-most : (x y : Float) → top 63 (at_most x y) ≡ le x y) where
  abbrev pick : (Float → Float → ℕ) → List Float → List Float → List Float → List Float → List Float
  pick test xs ys us vs = sel_l (map (top 63) (zip2 test xs ys)) us vs

  abbrev size_l : List Float → List Float
  size_l xs = pick below xs (map neg xs) (map neg xs) xs

  abbrev other_l : List Float → List Float → List Float
  other_l a b = pick level b b b a

  abbrev large_l : List Float → List Float → List Float
  large_l a c = pick at_most c a a c

  abbrev small_l : List Float → List Float → List Float
  small_l a c = pick at_most a c a c

  abbrev pub under_l : ℕ → List Float → List Float → List Float
  under_l n xs ys =
      let a = size_l xs in
      let c = other_l a (size_l ys) in
      let q = zip2 (λ x y. x /ᶠ y) (small_l a c) (large_l a c) in
      zip2 (λ x y. x +ᶠ y) (replicate n one_f) (zip2 (λ x y. x *ᶠ y) q q)

  abbrev pub whole_l : ℕ → List Float → List Float → List Float → List Float
  whole_l n xs ys roots =
      let a = size_l xs in
      let m = large_l a (other_l a (size_l ys)) in
      pick level m (replicate n zero_f) (replicate n zero_f) (zip2 (λ x y. x *ᶠ y) m roots)

  -- one lane
  abbrev one : (Float → Float → ℕ) → Float → Float → Float → Float → Float
  one test x y u v = cond (top 63 (test x y)) u v

  abbrev size_1 : Float → Float
  size_1 x = one below x (neg x) (neg x) x

  abbrev other_1 : Float → Float → Float
  other_1 a b = one level b b b a

  abbrev large_1 : Float → Float → Float
  large_1 a c = one at_most c a a c

  abbrev small_1 : Float → Float → Float
  small_1 a c = one at_most a c a c

  abbrev whole_1 : Float → Float → Float
  whole_1 m s = one level m zero_f zero_f (m *ᶠ sqrt (one_f +ᶠ (s /ᶠ m) *ᶠ (s /ᶠ m)))

  one_lane : (x y : Float) → whole_1 (large_1 (size_1 x) (other_1 (size_1 x) (size_1 y))) (small_1 (size_1 x) (other_1 (size_1 x) (size_1 y))) ≡ magnitude_by x y
  one_lane x y = ap₂ whole_1 large small ∙ ap (λ (t : Bool). cond t zero_f (m *ᶠ sqrt (one_f +ᶠ (s /ᶠ m) *ᶠ (s /ᶠ m)))) (is-level m zero_f) ∙ by-lane x y
    where
      c : Float
      c = other (sized x) (sized y)

      m : Float
      m = cond (le c (sized x)) (sized x) c

      s : Float
      s = cond (le (sized x) c) (sized x) c

      size : (x : Float) → size_1 x ≡ sized x
      size x = ap (λ (t : Bool). cond t (neg x) x) (is_below x (neg x))

      other_is : other_1 (size_1 x) (size_1 y) ≡ c
      other_is = ap₂ other_1 (size x) (size y) ∙ ap (λ (t : Bool). cond t (sized y) (sized x)) (is-level (sized y) (sized y))

      large : large_1 (size_1 x) (other_1 (size_1 x) (size_1 y)) ≡ m
      large = ap₂ large_1 (size x) other_is ∙ ap (λ (t : Bool). cond t (sized x) c) (is-most c (sized x))

      small : small_1 (size_1 x) (other_1 (size_1 x) (size_1 y)) ≡ s
      small = ap₂ small_1 (size x) other_is ∙ ap (λ (t : Bool). cond t (sized x) c) (is-most (sized x) c)

  by_roots : (n : ℕ) (xs ys : List Float) → length xs ≡ n → length ys ≡ n → whole_l n xs ys (map sqrt (under_l n xs ys)) ≡ zip2 magnitude_by xs ys
  by_roots zero [] [] h g = refl
  by_roots zero [] (y ∷ ys) h g = absurd (omega arith)
  by_roots zero (x ∷ xs) ys h g = absurd (omega arith)
  by_roots (suc n) [] ys h g = absurd (omega arith)
  by_roots (suc n) (x ∷ xs) [] h g = absurd (omega arith)
  by_roots (suc n) (x ∷ xs) (y ∷ ys) h g =
      ap₂ (λ (z : Float) (l : List Float). z ∷ l) (one_lane x y) (by_roots n xs ys (omega arith) (omega arith))

  pub lanes-are : (n : ℕ) (xs ys roots : List Float) → length xs ≡ n → length ys ≡ n → roots ≡ map sqrt (under_l n xs ys) → whole_l n xs ys roots ≡ zip2 magnitude_by xs ys
  lanes-are n xs ys roots h g e = ap (whole_l n xs ys) e ∙ by_roots n xs ys h g
