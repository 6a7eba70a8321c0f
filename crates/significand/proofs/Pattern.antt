-- The bit pattern of a number, by its units, and what it says of the significand and the exponent. Assumes nothing.
use mathlib.Core.Path.{◌≡◌, refl, sym, ap, ◌∙◌, subst}
use mathlib.Core.Bool.{Bool, true, false, not, cond}
use Prim.Native.Nat.{ℕ, zero, suc, ◌+◌, ◌-◌, ◌*◌, ◌/◌, ◌%◌, ◌^◌, ◌≤◌, ◌<◌}
use native.Mathlib.Nat.{le_trans, le_of_eq, lt_of_lt_of_le, lt_of_le_of_lt, add_assoc, zero-add, div-one, mul-div-mul_right, mul-div_cancel, mul_assoc, div-le_self, le-div_iff_mul-le, mul-lt-mul_of_pos_right, mod-eq_of_lt}
use native.Mathlib.Omega.{arith}
use lib.Dec.{T, lit≤}
use lib.Pow.{pow-add, pow_pos}
use lib.Count.{count_leading_zeros, leading_top}
use lib.Ieee.{Float, nan, inf, fin, binary64, fits, size, to_bits, is_nan}
use lib.Ieee.Digits.{size-lt, size-le, size_reaches}
use lib.Ieee.Fits.{kept-lt}
use Rattle.numbers.specs.Number.{finite, negative}
use Rattle.numbers.proofs.Leaves.{clash}
use Rattle.rounding.specs.Units.{units_of}
use Rattle.rounding.proofs.Units.{counted, pow-less}
use Rattle.significand.specs.Significand.{significand_of, exponent_of}
use Rattle.significand.proofs.Exact.{exact}

-- what is not finite has no units
pub no-units : (x : Float) → finite x ≡ false → units_of x ≡ 0
unfolding finite units_of
no-units nan h = refl
no-units (inf s) h = refl
no-units (fin s m e) h = clash (sym h)

pub no_nan : (x : Float) → finite x ≡ true → T (not (is_nan x))
unfolding finite is_nan
no_nan nan h = clash h
no_nan (inf s) h = tt
no_nan (fin s m e) h = tt

-- the pattern of n units: how many digits are dropped, then the digits that are kept
abbrev pattern : ℕ → ℕ
pattern n = (size n - 53) * 2 ^ 52 + n / 2 ^ (size n - 53)

signed : (x : Float) → finite x ≡ true → to_bits binary64 x ≡ cond (negative x) 0x8000_0000_0000_0000 0 + pattern (units_of x)
unfolding to_bits finite negative units_of
signed nan h = clash h
signed (inf s) h = clash h
signed (fin s m e) h = add_assoc (cond s 0x8000_0000_0000_0000 0) _ _

-- how the digits lie
record Laid (n : ℕ) : Type 0 where
  few : n / 2 ^ (size n - 53) < 2 ^ 53
  many : 0 < size n - 53 → 2 ^ 52 ≤ n / 2 ^ (size n - 53)
  low : size n ≤ 2098

laid : (n : ℕ) → n < 2 ^ 2098 → Laid n
laid n h = record {
  few = kept-lt 53 n;
  many = λ p. (le-div_iff_mul-le (pow_pos (size n - 53))).1 (le_trans (le_of_eq (sym (pow-add 2 52 (size n - 53)))) (size_reaches n (52 + (size n - 53)) (omega arith)));
  low = size-le n 2098 h;
}

-- without its sign
pub unsigned : (x : Float) → T (fits binary64 x) → finite x ≡ true → to_bits binary64 x % 0x8000_0000_0000_0000 ≡ pattern (units_of x)
unsigned x f h = ap (λ (w : ℕ). w % 0x8000_0000_0000_0000) (signed x h) ∙ go (negative x) (laid (units_of x) (counted x f h).below)
  where
    go : (s : Bool) → Laid (units_of x) → (cond s 0x8000_0000_0000_0000 0 + pattern (units_of x)) % 0x8000_0000_0000_0000 ≡ pattern (units_of x)
    go true l = omega (arith, l.few, l.low)
    go false l = omega (arith, l.few, l.low)

-- a pattern whose exponent's field is 0 is the number of units itself
small : (n : ℕ) → Laid n → pattern n / 2 ^ 52 ≡ 0 → pattern n ≡ n
small n l e =
    let z : size n - 53 ≡ 0 = omega (arith, l.few) in
    ap (λ (k : ℕ). k * 2 ^ 52 + n / 2 ^ k) z ∙ zero-add (n / 1) ∙ div-one n

-- shifted up, such a number has 53 digits
pub record Shifted (w : ℕ) : Type 0 where
  pub least : 12 ≤ count_leading_zeros 64 w
  pub most : count_leading_zeros 64 w ≤ 63
  pub shifted : w * 2 ^ (count_leading_zeros 64 w - 11) ≡ w * 2 ^ 53 / 2 ^ size w
  pub short : w * 2 ^ (count_leading_zeros 64 w - 11) < 2 ^ 53
  pub size : 52 - (count_leading_zeros 64 w - 11) ≡ size w - 1

shift-up : (w : ℕ) → 0 < w → w < 2 ^ 52 → Shifted w
shift-up w p h = record {
  least = omega (arith, a, j-lt);
  most = omega (arith, a);
  shifted = ap (λ (k : ℕ). w * 2 ^ k) s ∙ sym (ap (λ (k : ℕ). w * 2 ^ 53 / 2 ^ k) digits ∙ ap (λ (k : ℕ). k / 2 ^ suc j) split ∙ mul-div_cancel (w * 2 ^ (52 - j)) (pow_pos (suc j)));
  short = subst (λ (k : ℕ). w * 2 ^ k < 2 ^ 53) (sym s) (lt_of_lt_of_le (mul-lt-mul_of_pos_right q.3 (pow_pos (52 - j))) (le_of_eq (sym (pow-add 2 (suc j) (52 - j)) ∙ ap (λ (k : ℕ). 2 ^ k) up)));
  size = omega (arith, s, digits, j-lt);
}
  where
    q : (j : ℕ) × (count_leading_zeros 64 w + suc j ≡ 64) × (2 ^ j ≤ w) × (w < 2 ^ suc j)
    q = leading_top 64 w p (lt_of_lt_of_le h (lit≤ tt))

    j : ℕ
    j = q.0

    a : count_leading_zeros 64 w + suc j ≡ 64
    a = q.1

    j-lt : j < 52
    j-lt = pow-less j 52 (lt_of_le_of_lt q.2 h)

    s : count_leading_zeros 64 w - 11 ≡ 52 - j
    s = omega (arith, a)

    up : suc j + (52 - j) ≡ 53
    up = omega (arith, j-lt)

    digits : size w ≡ suc j
    digits = omega (arith, size-le w (suc j) q.3, pow-less j (size w) (lt_of_le_of_lt q.2 (size-lt w)))

    parts : 53 ≡ 52 - j + suc j
    parts = omega (arith, j-lt)

    split : w * 2 ^ 53 ≡ w * 2 ^ (52 - j) * 2 ^ suc j
    split = ap (λ (k : ℕ). w * 2 ^ k) parts ∙ ap (λ (k : ℕ). w * k) (pow-add 2 (52 - j) (suc j)) ∙ sym (mul_assoc w (2 ^ (52 - j)) (2 ^ suc j))

-- of no units both are 0
pub none : (x : Float) → units_of x ≡ 0 → (units_of x ≡ 0) × (significand_of x ≡ 0) × (exponent_of x ≡ 0)
unfolding significand_of exponent_of size
none x e = (e, rw e refl, rw e refl)

-- m and n are the parts of x
pub record PartsOf (x : Float) (m n : ℕ) : Type 0 where
  pub some : 0 < units_of x
  pub significand : m ≡ significand_of x
  pub exponent : n ≡ exponent_of x
  pub low : 2 ^ 52 ≤ m
  pub high : m < 2 ^ 53
  pub reach : n ≤ 2097

module _ (x : Float) (f : T (fits binary64 x)) (h : finite x ≡ true) where
  abbrev w : ℕ
  w = to_bits binary64 x % 0x8000_0000_0000_0000

  abbrev n : ℕ
  n = units_of x

  l : Laid n
  l = laid n (counted x f h).below

  is-small : w / 2 ^ 52 ≡ 0 → w ≡ n
  is-small e = unsigned x f h ∙ small n l (ap (λ (k : ℕ). k / 2 ^ 52) (sym (unsigned x f h)) ∙ e)

  pub of_zero : w ≡ 0 → n ≡ 0
  of_zero e = sym (is-small (ap (λ (k : ℕ). k / 2 ^ 52) e)) ∙ e

  -- a pattern other than zero has units
  some : (w ≡ 0 → ⊥) → 0 < n
  unfolding size
  some z = pos n (λ e. z (unsigned x f h ∙ ap pattern e))
    where
      pos : (n : ℕ) → (n ≡ 0 → ⊥) → 0 < n
      pos n g = omega arith

  pub is-shifted : (w ≡ 0 → ⊥) → w / 2 ^ 52 ≡ 0 → Shifted w
  is-shifted z e = shift-up w (omega arith) (omega arith)

  parts : (m n : ℕ) → (w ≡ 0 → ⊥) → (m ≡ significand_of x) × (n ≡ exponent_of x) → PartsOf x m n
  parts m n z p =
      let e = exact x f h (some z) in
      record { some = some z; significand = p.0; exponent = p.1; low = rw p.0 e.low; high = rw p.0 e.high; reach = rw p.1 e.reach }

  pub of_low : (w ≡ 0 → ⊥) → w / 2 ^ 52 ≡ 0 → PartsOf x (w * 2 ^ (count_leading_zeros 64 w - 11) % 2 ^ 64) (52 - (count_leading_zeros 64 w - 11))
  unfolding significand_of exponent_of
  of_low z e =
      let s = is-shifted z e in
      parts _ _ z
      (mod-eq_of_lt (lt_of_lt_of_le s.short (lit≤ tt)) ∙ s.shifted ∙ ap (λ (k : ℕ). k * 2 ^ 53 / 2 ^ size k) (is-small e), s.size ∙ ap (λ (k : ℕ). size k - 1) (is-small e))

  -- else the field is one more than the number of digits that are dropped, or 1 if none is
  pub of-high : (w / 2 ^ 52 ≡ 0 → ⊥) → PartsOf x (2 ^ 52 + w % 2 ^ 52) (w / 2 ^ 52 + 51)
  unfolding significand_of exponent_of
  of-high z = parts _ _ (λ e. z (ap (λ (k : ℕ). k / 2 ^ 52) e)) (
    (let e : 2 ^ 52 + w % 2 ^ 52 ≡ n / 2 ^ k = omega (arith, field, rest) in
        e ∙ sym (mul-div-mul_right n (2 ^ k) (pow_pos 53)) ∙ ap (λ (j : ℕ). n * 2 ^ 53 / j) (sym (pow-add 2 k 53) ∙ ap (λ (j : ℕ). 2 ^ j) (sym all))),
    omega (arith, all, field),
  )
    where
      k : ℕ
      k = size n - 53

      p : w ≡ k * 2 ^ 52 + n / 2 ^ k
      p = unsigned x f h

      -- the leading digit is there
      lead : (d : ℕ) → w ≡ d * 2 ^ 52 + n / 2 ^ d → (0 < d → 2 ^ 52 ≤ n / 2 ^ d) → 2 ^ 52 ≤ n / 2 ^ d
      lead zero e m = omega arith
      lead (suc d) e m = m (omega arith)

      q-ge : 2 ^ 52 ≤ n / 2 ^ k
      q-ge = lead k p l.many

      field : w / 2 ^ 52 ≡ suc k
      field = omega (arith, p, q-ge, l.few)

      rest : w % 2 ^ 52 + 2 ^ 52 ≡ n / 2 ^ k
      rest = omega (arith, p, q-ge, l.few)

      all : size n ≡ k + 53
      all = go (pow-less 52 (size n) (lt_of_le_of_lt (le_trans q-ge (div-le_self n (2 ^ k))) (size-lt n)))
        where
          go : 52 < size n → size n ≡ size n - 53 + 53
          go h = omega arith
