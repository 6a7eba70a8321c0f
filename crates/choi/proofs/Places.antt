-- Places of the Choi matrix's parts: each lies within the matrix, and is read back as it was made. Assumes nothing.
use mathlib.Core.Path.{◌≡◌, refl, sym, ◌∙◌, ap₂}
use Prim.Native.Nat.{ℕ, ◌+◌, ◌*◌, ◌/◌, ◌%◌, ◌^◌, ◌<◌, ◌≤◌}
use native.Mathlib.Nat.{mul-le-mul, div-add-mod', div-lt_iff_lt-mul, mod-lt}
use native.Mathlib.Omega.{arith}
use lib.Dec.{lit<}
use lib.Pow.{pow_mono, pow_pos}
use Rattle.lists.proofs.Parts.{entry-fits, row-of, column-of}
use Rattle.sizes.proofs.Small.{square-most, four-most}
use Rattle.pauli.proofs.Entries.{below-four}
use Rattle.choi.specs.Choi.{row_at, column_at, on_place}
use Rattle.choi.specs.Sparse.{Sides, place_of}

pub four_is : (n : ℕ) → n ≤ 2 → 4 ^ n ≡ 2 ^ n * 2 ^ n
four_is n h = below-four (λ n. 4 ^ n ≡ 2 ^ n * 2 ^ n) refl refl refl refl n (omega arith)

-- how many there are at most
pub parts-most : (n : ℕ) → n ≤ 2 → 2 * (4 ^ n * 4 ^ n) ≤ 512
parts-most n h = omega (arith, square-most (4 ^ n) (four-most n h))

pub square-is : (n d p : ℕ) → Sides n d p → p ≡ d * d
square-is n d p s = s.strings ∙ four_is n s.few ∙ sym (ap₂ (λ (x y : ℕ). x * y) s.side s.side)

pub record Inside (d p i r j s : ℕ) : Type 0 where
  pub row : i * d + r < p
  pub column : j * d + s < p
  pub entry : (i * d + r) * p + (j * d + s) < p * p
  pub square : p * p ≤ 256

pub inside : (n d p i r j s : ℕ) → Sides n d p → i < d → r < d → j < d → s < d → Inside d p i r j s
inside n d p i r j s z hi hr hj hs =
    let e : p ≡ d * d = square-is n d p z in
    let a : i * d + r < p = omega (arith, entry-fits i r d d hi hr) in
    let b : j * d + s < p = omega (arith, entry-fits j s d d hj hs) in
    let f : d ≤ 4 = omega (arith, z.side, pow_mono z.few) in
    let g : p ≤ 16 = omega (arith, mul-le-mul f f) in
    record { row = a; column = b; entry = entry-fits (i * d + r) (j * d + s) p p a b; square = mul-le-mul g g }

pub placed : (n d p q i r j s : ℕ) → Sides n d p → 2 * ((i * d + r) * p + (j * d + s)) + q ≡ place_of n q i r j s
unfolding place_of
placed n d p q i r j s z = rw (z.side, z.strings)

-- what a place is made of
module _ (n k : ℕ) (few : n ≤ 2) where
  four : 0 < 4 ^ n
  four = below-four (λ n. 0 < 4 ^ n) (lit< tt) (lit< tt) (lit< tt) (lit< tt) n (omega arith)

  pub place_is : k ≡ place_of n (k % 2) (row_at n k / 2 ^ n) (row_at n k % 2 ^ n) (column_at n k / 2 ^ n) (column_at n k % 2 ^ n)
  unfolding place_of
  place_is =
      omega (arith, div-add-mod' (k / 2) (4 ^ n))
      ∙ ap₂ (λ (x y : ℕ). 2 * (x * 4 ^ n + y) + k % 2) (sym (div-add-mod' (row_at n k) (2 ^ n))) (sym (div-add-mod' (column_at n k) (2 ^ n)))

  -- the halves of a row and a column
  half_in : (x : ℕ) → x < 4 ^ n → x / 2 ^ n < 2 ^ n
  half_in x h = (div-lt_iff_lt-mul (pow_pos n)).1 (omega (arith, four_is n few))

  pub row_in : k < 2 * (4 ^ n * 4 ^ n) → row_at n k / 2 ^ n < 2 ^ n
  row_in h = half_in (row_at n k) ((div-lt_iff_lt-mul four).1 (omega arith))

  pub column-in : column_at n k / 2 ^ n < 2 ^ n
  column-in = half_in (column_at n k) (mod-lt (k / 2) four)

-- a place is read back as it was made
module _ (n q i r j s : ℕ) (few : n ≤ 2) (hq : q < 2) (hr : r < 2 ^ n) (hj : j < 2 ^ n) (hs : s < 2 ^ n) where
  column-low : j * 2 ^ n + s < 4 ^ n
  column-low = omega (arith, entry-fits j s (2 ^ n) (2 ^ n) hj hs, four_is n few)

  half : place_of n q i r j s / 2 ≡ (i * 2 ^ n + r) * 4 ^ n + (j * 2 ^ n + s)
  unfolding place_of
  half = omega arith

  pub place-part : place_of n q i r j s % 2 ≡ q
  unfolding place_of
  place-part = omega arith

  pub place-row : row_at n (place_of n q i r j s) ≡ i * 2 ^ n + r
  place-row = rw half (row-of (i * 2 ^ n + r) (j * 2 ^ n + s) (4 ^ n) column-low)

  pub place-column : column_at n (place_of n q i r j s) ≡ j * 2 ^ n + s
  place-column = rw half (column-of (i * 2 ^ n + r) (j * 2 ^ n + s) (4 ^ n) column-low)

  -- a function of what a place is made of
  pub at_place : {A : Type 0} (f : ℕ → ℕ → ℕ → ℕ → ℕ → A) → on_place n f (place_of n q i r j s) ≡ f q i r j s
  at_place f =
      rw (place-part, place-row, place-column, row-of i r (2 ^ n) hr, column-of i r (2 ^ n) hr, row-of j s (2 ^ n) hs, column-of j s (2 ^ n) hs)
