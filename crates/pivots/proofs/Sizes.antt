-- Magnitudes are compared as sizes are. Assumes nothing.
use mathlib.Core.Path.{◌≡◌, refl, sym, ◌∙◌, ap, ap₂, subst}
use mathlib.Core.Bool.{Bool, true, false, not, ◌&&◌, ◌||◌, cond}
use Prim.Native.Nat.{ℕ, zero, suc, ◌+◌, ◌*◌, ◌<◌, ◌≤◌}
use native.Mathlib.Nat.{zero-mul, add-zero, zero-add, mul-one, mul-pos, zero-lt-suc, not-suc-le-zero}
use native.Mathlib.Omega.{arith}
use lib.IntN.{ℤ}
use lib.Dec.{ltb}
use lib.Ieee.Fits.{up_pos}
use lib.Ieee.{Float, nan, inf, fin, is_nan, lt, le, eq, neg, of_bits, up, down}
use borrow.Author.Tests.{ltb-true, ltb-false, le-ltb}
use Rattle.numbers.specs.Number.{abs, max, negative, precedes}
use Rattle.pivots.specs.Pivots.{magnitude, stays_largest}

-- a number whose sign is set and that is not below zero is a zero
only_zero : (m : ℕ) (e : ℤ) → m * up e * 1 + 0 * down e ≤ 0 → m ≡ 0
only_zero zero e h = refl
only_zero (suc m) e h = absurd (not-suc-le-zero (subst (λ (k : ℕ). 0 < k) (omega (arith, mul-one (suc m * up e))) (mul-pos (zero-lt-suc m) (up_pos e))))

-- what does not tell zeros of both signs apart does not tell a magnitude from a size
pub same_size : {A : Type 0} (F : Float → A) (x : Float) → ((e : ℤ) → F (fin true 0 e) ≡ F (fin false 0 e)) → F (magnitude x) ≡ F (abs x)
unfolding magnitude abs lt neg of_bits
same_size F nan z = refl
same_size F (inf true) z = refl
same_size F (inf false) z = refl
same_size F (fin false m e) z = go (ltb (m * up e * 1) (0 * down e)) refl
  where
    go : (b : Bool) → ltb (m * up e * 1) (0 * down e) ≡ b → F (cond b (fin true m e) (fin false m e)) ≡ F (fin false m e)
    go true h = absurd (not-suc-le-zero (subst (λ (k : ℕ). m * up e * 1 < k) (zero-mul (down e)) (ltb-true _ _ h)))
    go false h = refl
same_size F (fin true m e) z = go (ltb 0 (m * up e * 1 + 0 * down e)) refl
  where
    go : (b : Bool) → ltb 0 (m * up e * 1 + 0 * down e) ≡ b → F (cond b (fin false m e) (fin true m e)) ≡ F (fin false m e)
    go true h = refl
    go false h = subst (λ (k : ℕ). F (fin true k e) ≡ F (fin false k e)) (sym (only_zero m e (ltb-false 0 _ h))) (z e)

-- comparisons do not
pub after-zero : (s : Float) (e : ℤ) → lt s (fin true 0 e) ≡ lt s (fin false 0 e)
unfolding lt
after-zero nan e = refl
after-zero (inf t) e = refl
after-zero (fin false m d) e = rw (zero-mul (up e), zero-mul (down d)) (sym (le-ltb (m * up d * down e) 0 (omega arith)))
after-zero (fin true m d) e = rw (zero-mul (up e), zero-mul (down d), add-zero)

before-zero : (s : Float) (e : ℤ) → lt (fin true 0 e) s ≡ lt (fin false 0 e) s
unfolding lt
before-zero nan e = refl
before-zero (inf t) e = refl
before-zero (fin false n d) e = rw (zero-mul (up e), zero-mul (down d), zero-add)
before-zero (fin true n d) e = rw (zero-mul (up e), zero-mul (down d)) (le-ltb (n * up d * down e) 0 (omega arith))

level-zero : (s : Float) (e : ℤ) → eq (fin true 0 e) s ≡ eq (fin false 0 e) s
unfolding eq
level-zero nan e = refl
level-zero (inf t) e = refl
level-zero (fin false n d) e = rw (zero-mul (up e), zero-mul (down d))
level-zero (fin true n d) e = rw (zero-mul (up e), zero-mul (down d))

-- the test against the threshold
pub same-limit : (x limit : Float) → le (magnitude x) limit ≡ le (abs x) limit
unfolding le
same-limit x limit = same_size (λ y. le y limit) x (λ e. ap₂ ◌||◌ (before-zero limit e) (level-zero limit e))

-- the test for the larger of two
second-test : (p q : Bool) → cond p true false ≡ cond p true (cond q false (false && not false))
second-test true q = refl
second-test false true = refl
second-test false false = refl

sizes-order : (x y : Float) → stays_largest (abs x) (abs y) ≡ precedes (abs x) (abs y)
unfolding stays_largest precedes abs is_nan lt negative
sizes-order nan y = refl
sizes-order (inf s) nan = refl
sizes-order (inf s) (inf t) = refl
sizes-order (inf s) (fin t n d) = refl
sizes-order (fin s m e) nan = refl
sizes-order (fin s m e) (inf t) = refl
sizes-order (fin s m e) (fin t n d) = second-test (ltb (m * up e * down d) (n * up d * down e)) (ltb (n * up d * down e) (m * up e * down d))

pub same-order : (x y : Float) → stays_largest (magnitude x) (magnitude y) ≡ precedes (abs x) (abs y)
unfolding stays_largest is_nan
same-order x y =
    same_size (λ a. stays_largest a (magnitude y)) x (λ e. ap (λ (b : Bool). cond b true (is_nan (magnitude y))) (before-zero (magnitude y) e))
    ∙ same_size (λ b. stays_largest (abs x) b) y (λ e. ap (λ (b : Bool). cond b true (cond (is_nan (abs x)) false false)) (after-zero (abs x) e))
    ∙ sizes-order x y

-- ---- The largest size so far: no NaN, and its sign is not set
abbrev pub Sized : Float → Type 0
Sized nan = ⊥
Sized (inf true) = ⊥
Sized (inf false) = Unit {0}
Sized (fin true m e) = ⊥
Sized (fin false m e) = Unit {0}

-- the larger of it and y takes one comparison
either_way : {A : Type 0} (p q : Bool) (x y : A) → cond p y x ≡ cond p y (cond q x x)
either_way true q x y = refl
either_way false true x y = refl
either_way false false x y = refl

pub larger-size : (s y : Float) → Sized s → cond (lt s y) y s ≡ max s y
unfolding max is_nan lt negative
larger-size nan y h = absurd h
larger-size (inf true) y h = absurd h
larger-size (inf false) nan h = refl
larger-size (inf false) (inf true) h = refl
larger-size (inf false) (inf false) h = refl
larger-size (inf false) (fin t n d) h = refl
larger-size (fin true m e) y h = absurd h
larger-size (fin false m e) nan h = refl
larger-size (fin false m e) (inf true) h = refl
larger-size (fin false m e) (inf false) h = refl
larger-size (fin false m e) (fin true n d) h = either_way false (ltb 0 (n * up d * down e + m * up e * down d)) (fin false m e) (fin true n d)
larger-size (fin false m e) (fin false n d) h = either_way (ltb (m * up e * down d) (n * up d * down e)) (ltb (n * up d * down e) (m * up e * down d)) (fin false m e) (fin false n d)

pub not-below-zero : (s : Float) (e : ℤ) → Sized s → lt s (fin true 0 e) ≡ false
unfolding lt
not-below-zero nan e h = refl
not-below-zero (inf true) e h = absurd h
not-below-zero (inf false) e h = refl
not-below-zero (fin true m d) e h = absurd h
not-below-zero (fin false m d) e h = refl

pub same-larger : (s x : Float) → Sized s → cond (lt s (magnitude x)) (magnitude x) s ≡ max s (abs x)
same-larger s x h =
    same_size (λ y. cond (lt s y) y s) x
    (λ e. let b : lt s (fin true 0 e) ≡ false = not-below-zero s e h in let c : lt s (fin false 0 e) ≡ false = sym (after-zero s e) ∙ b in rw (b, c))
    ∙ larger-size s (abs x) h

-- and is of that kind again
pub one_of : (b : Bool) (x y : Float) → Sized x → Sized y → Sized (cond b x y)
one_of true x y h k = h
one_of false x y h k = k

not-below-nan : (s : Float) → lt s nan ≡ false
unfolding lt
not-below-nan nan = refl
not-below-nan (inf t) = refl
not-below-nan (fin t m e) = refl

pub still-sized : (s x : Float) → Sized s → Sized (max s (abs x))
unfolding abs
still-sized s x h = subst Sized (larger-size s (abs x) h) (go x)
  where
    go : (x : Float) → Sized (cond (lt s (abs x)) (abs x) s)
    go nan = subst (λ (b : Bool). Sized (cond b nan s)) (sym (not-below-nan s)) h
    go (inf t) = one_of (lt s (inf false)) (inf false) s tt h
    go (fin t m e) = one_of (lt s (fin false m e)) (fin false m e) s tt h

-- one number more
pub next-scale : (s x y t : Float) → Sized s → y ≡ magnitude x → t ≡ cond (lt s y) y s → (t ≡ max s (abs x)) × Sized t
next-scale s x y t h a b =
    let e : t ≡ max s (abs x) = b ∙ ap (λ (y : Float). cond (lt s y) y s) a ∙ same-larger s x h in
    (e, subst Sized (sym e) (still-sized s x h))
