-- Zeros of either sign, in products, and in sums that are not -0. Assumes nothing.
use mathlib.Core.Path.{◌≡◌, refl, sym, ◌∙◌, ap, ap₂}
use mathlib.Core.Bool.{Bool, true, false, not}
use Prim.Native.Nat.{ℕ, zero, suc, ◌*◌, ◌^◌, ◌<◌}
use native.Mathlib.Nat.{zero-mul, mul-zero, mul-one, one-mul, mul-pos, zero-add, zero-lt-suc, sub-zero}
use lib.IntN.{ℤ, pos, negsuc}
use lib.Dec.{T}
use lib.Pow.{pow_pos}
use lib.Ieee.{Float, nan, inf, fin, Format, binary64, up, down, round, add, sub, sum, mul, div, neg, fits, unlike}
use lib.Ieee.Fits.{up_pos, down_pos}
use borrow.Author.Tests.{lt-ltb}
use Rattle.numbers.specs.Number.{finite, Plain, ◌+ᶠ◌, ◌-ᶠ◌, ◌*ᶠ◌, ◌/ᶠ◌}
use Rattle.numbers.proofs.Leaves.{clash, zero_exponent}
use Rattle.rounding.proofs.Unique.{round-self}
use Rattle.rounding.proofs.Zeros.{round-zero, own-last, add_nothing, finite-over}

-- +0 or -0
pub record Nought (x : Float) : Type 0 where
  pub sign : Bool
  pub is : x ≡ fin sign 0 (pos 0)

pub nought : (s : Bool) → Nought (fin s 0 (pos 0))
nought s = record { sign = s; is = refl }

move : {x y : Float} → x ≡ y → Nought y → Nought x
move e z = record { sign = z.sign; is = e ∙ z.is }

pub nought-finite : (x : Float) → Nought x → finite x ≡ true
unfolding finite
nought-finite x z = ap finite z.is

rounded : (s : Bool) (a c : ℕ) → a ≡ 0 → 0 < c → Nought (round binary64 s a c)
rounded s a c e p = record { sign = s; is = ap (λ (k : ℕ). round binary64 s k c) e ∙ round-zero binary64 s c p }

pub nought-times : (x y : Float) → Nought x → finite y ≡ true → Nought (x *ᶠ y)
unfolding mul finite
nought-times x nan z h = clash h
nought-times x (inf t) z h = clash h
nought-times x (fin t n d) z h =
    move (ap (λ (w : Float). w *ᶠ fin t n d) z.is) (rounded (unlike z.sign t) (0 * (n * up d)) (1 * down d) (zero-mul (n * up d)) (mul-pos (pow_pos 0) (down_pos d)))

pub times-nought : (x y : Float) → finite x ≡ true → Nought y → Nought (x *ᶠ y)
unfolding mul finite
times-nought nan y h z = clash h
times-nought (inf t) y h z = clash h
times-nought (fin t n d) y h z =
    move (ap (λ (w : Float). fin t n d *ᶠ w) z.is) (rounded (unlike t z.sign) (n * up d * 0) (down d * 1) (mul-zero (n * up d)) (mul-pos (down_pos d) (pow_pos 0)))

pub nought-over : (x : Float) (n : ℕ) → Nought x → Nought (x /ᶠ fin false 1 (pos n))
unfolding div
nought-over x n z =
    move (ap (λ (w : Float). w /ᶠ fin false 1 (pos n)) z.is) (rounded (unlike z.sign false) 0 (1 * 2 ^ n * 1) refl (mul-pos (mul-pos (pow_pos 0) (pow_pos n)) (pow_pos 0)))

pub nought-plus : (x y : Float) → Nought x → Nought y → Nought (x +ᶠ y)
unfolding add sum
nought-plus x y z w = move (ap₂ ◌+ᶠ◌ z.is w.is) (go z.sign w.sign)
  where
    go : (s t : Bool) → Nought (fin s 0 (pos 0) +ᶠ fin t 0 (pos 0))
    go true true = rounded true 0 1 refl (pow_pos 0)
    go true false = rounded false 0 1 refl (pow_pos 0)
    go false true = rounded false 0 1 refl (pow_pos 0)
    go false false = rounded false 0 1 refl (pow_pos 0)

pub nought-neg : (x : Float) → Nought x → Nought (neg x)
unfolding neg
nought-neg x z = move (ap neg z.is) (nought (not z.sign))

pub nought-minus : (x y : Float) → Nought x → Nought y → Nought (x -ᶠ y)
unfolding sub
nought-minus x y z w = nought-plus x (neg y) z (nought-neg y w)

-- ---- added to a number that is not -0

pub record Steady (x : Float) : Type 0 where
  pub plain : Plain x
  pub fit : T (fits binary64 x)

pub gone : (x z : Float) → Steady x → Nought z → x +ᶠ z ≡ x
gone x z s o = ap (λ (w : Float). x +ᶠ w) o.is ∙ add_nothing x o.sign s.fit s.plain

-- a zero and a number that is not zero
nothing-first : (f : Format) (s t : Bool) (a c : ℕ) → 0 < a → sum f t 0 s a c ≡ round f s a c
unfolding sum
nothing-first f true true a c h = rw zero-add
nothing-first f false false a c h = rw zero-add
nothing-first f true false a c h = simp (lt-ltb 0 a h, sub-zero)
nothing-first f false true a c h = simp (lt-ltb 0 a h, sub-zero)

own_first : (s : Bool) (m : ℕ) (e : ℤ) (t : Bool) → T (fits binary64 (fin s (suc m) e)) → add binary64 (fin t 0 (pos 0)) (fin s (suc m) e) ≡ fin s (suc m) e
unfolding add
own_first s m e t h =
    let a = suc m * up e * 1 in
    let c = 1 * down e in
    ap (λ (z : ℕ). sum binary64 t z s a c) (zero-mul (down e))
    ∙ nothing-first binary64 s t a c (mul-pos (mul-pos (zero-lt-suc m) (up_pos e)) (pow_pos 0))
    ∙ round-self binary64 s m e a c (mul-pos (pow_pos 0) (down_pos e)) h (rw (mul-one, one-mul))

-- v and a zero, in either order, are as good as v
module _ (x z : Float) (s : Steady x) (o : Nought z) where
  zeros : (t : Bool) (e : ℤ) → T (fits binary64 (fin t 0 e)) → Nought (fin t 0 e)
  zeros t e h = record { sign = t; is = ap (λ (d : ℤ). fin t 0 d) (zero_exponent t e h) }

  pub nought-last : (v : Float) → T (fits binary64 v) → x +ᶠ (v +ᶠ z) ≡ x +ᶠ v
  unfolding add
  nought-last v h = ap (λ (w : Float). x +ᶠ (v +ᶠ w)) o.is ∙ go v h
    where
      go : (v : Float) → T (fits binary64 v) → x +ᶠ (v +ᶠ fin o.sign 0 (pos 0)) ≡ x +ᶠ v
      go nan h = refl
      go (inf t) h = refl
      go (fin t zero e) h =
          let n = zeros t e h in
          gone x (fin t 0 e +ᶠ fin o.sign 0 (pos 0)) s (nought-plus (fin t 0 e) (fin o.sign 0 (pos 0)) n (nought o.sign)) ∙ sym (gone x (fin t 0 e) s n)
      go (fin t (suc m) e) h = ap (λ (w : Float). x +ᶠ w) (own-last t m e o.sign h)

  pub nought-first : (v : Float) → T (fits binary64 v) → x +ᶠ (z +ᶠ v) ≡ x +ᶠ v
  unfolding add
  nought-first v h = ap (λ (w : Float). x +ᶠ (w +ᶠ v)) o.is ∙ go v h
    where
      go : (v : Float) → T (fits binary64 v) → x +ᶠ (fin o.sign 0 (pos 0) +ᶠ v) ≡ x +ᶠ v
      go nan h = refl
      go (inf t) h = refl
      go (fin t zero e) h =
          let n = zeros t e h in
          gone x (fin o.sign 0 (pos 0) +ᶠ fin t 0 e) s (nought-plus (fin o.sign 0 (pos 0)) (fin t 0 e) (nought o.sign) n) ∙ sym (gone x (fin t 0 e) s n)
      go (fin t (suc m) e) h = ap (λ (w : Float). x +ᶠ w) (own_first t m e o.sign h)

-- ---- a finite number over 2^n, as a product

flip : (s t : Bool) (m : ℕ) (e : ℤ) → T (fits binary64 (fin t m e)) → T (fits binary64 (fin s m e))
unfolding fits
flip s t zero e h = h
flip s t (suc m) e h = h

pub finite-part : (s : Bool) (k : ℕ) (x : Float) → T (fits binary64 x) → finite x ≡ true → finite (fin s 1 (negsuc k) *ᶠ x) ≡ true
unfolding finite mul div
finite-part s k nan h g = clash g
finite-part s k (inf t) h g = clash g
finite-part s k (fin t m e) h g =
    ap finite (same (unlike s t)) ∙ finite-over (fin (unlike s t) m e) (suc k) (flip (unlike s t) t m e h) refl
  where
    same : (u : Bool) → round binary64 u (1 * (m * up e)) (2 ^ suc k * down e) ≡ div binary64 (fin u m e) (fin false 1 (pos (suc k)))
    same true = ap₂ (round binary64 true) (one-mul (m * up e) ∙ sym (mul-one (m * up e))) (ap (λ (z : ℕ). z * down e) (sym (one-mul (2 ^ suc k))))
    same false = ap₂ (round binary64 false) (one-mul (m * up e) ∙ sym (mul-one (m * up e))) (ap (λ (z : ℕ). z * down e) (sym (one-mul (2 ^ suc k))))
