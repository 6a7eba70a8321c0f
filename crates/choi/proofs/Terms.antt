-- The terms of the Choi matrix: which is not zero, and what it adds. Assumes nothing.
use mathlib.Core.Path.{◌≡◌, refl, sym, ◌∙◌, ap, subst}
use mathlib.Core.Bool.{Bool, true, false, cond}
use Prim.Native.Nat.{ℕ, zero, suc, ◌+◌, ◌-◌, ◌%◌, ◌^◌, ◌<◌, ◌≤◌}
use native.Mathlib.Omega.{arith}
use lib.Dec.{T, eqb, ltb}
use lib.IntN.{pos, negsuc}
use lib.Ieee.{Float, fin, binary64, fits, of_bits, of_fields, odd, neg, round, units, span, climb, size, div}
use lib.Ieee.Fits.{mul-fits}
use borrow.Author.Tests.{eqb-true, eqb-false}
use Rattle.numbers.specs.Number.{zero_f, one_f, finite, ◌+ᶠ◌, ◌*ᶠ◌, ◌/ᶠ◌}
use Rattle.rounding.proofs.Zeros.{finite-over}
use Rattle.complex.specs.Arithmetic.{times, scaled, divided}
use Rattle.pauli.specs.Density.{string_part}
use Rattle.pauli.specs.Entry.{filled_column, filled_power, unit_of}
use Rattle.pauli.proofs.Entries.{below_two}
use Rattle.pauli.proofs.Sums.{filled-part, empty-part, power-number}
use Rattle.choi.specs.Choi.{string_number, side_of, coefficient, term, part_at}
use Rattle.choi.specs.Sparse.{share, signed}
use Rattle.choi.proofs.Noughts.{Nought, Steady, nought-times, nought-over, finite-part}
use Rattle.choi.proofs.Products.{Only, Empty, Sound, only-sound, empty-sound, empty-times, times-empty, only-other, only-there}

zero-nought : (x : Float) → x ≡ zero_f → Nought x
unfolding of_bits of_fields odd
zero-nought x e = record { sign = false; is = e }

-- ---- a string's entry

number-part : (n code row column k : ℕ) → part_at k (string_number n code row column) ≡ string_part n code k row column
number-part n code row column zero = refl
number-part n code row column (suc k) = refl

module _ (n code row column : ℕ) (h : column < 2 ^ n) where
  string-only : column ≡ filled_column n code row → Only (string_number n code row column) (filled_power n code row % 2) (unit_of (filled_power n code row))
  string-only e =
      let k = filled_power n code row % 2 in
      record {
        here = number-part n code row column k ∙ filled-part n code row column k h e refl;
        other = zero-nought (part_at (1 - k) (string_number n code row column)) (number-part n code row column (1 - k) ∙ empty-part n code row column (1 - k) h (omega arith) (λ _ g. omega arith));
      }

  string-empty : (column ≡ filled_column n code row → ⊥) → Empty (string_number n code row column)
  string-empty ne =
      record {
        re = zero-nought (string_part n code 0 row column) (empty-part n code row column 0 h (omega arith) (λ e _. ne e));
        im = zero-nought (string_part n code 1 row column) (empty-part n code row column 1 h (omega arith) (λ e _. ne e));
      }

unit-finite : (p : ℕ) → finite (unit_of p) ≡ true
unfolding unit_of finite of_bits of_fields odd neg
unit-finite p = go (ltb p 2)
  where
    go : (b : Bool) → finite (cond b one_f (neg one_f)) ≡ true
    go true = refl
    go false = refl

string-sound : (n code row column : ℕ) → column < 2 ^ n → Sound (string_number n code row column)
string-sound n code row column h = go (eqb column (filled_column n code row)) refl
  where
    go : (b : Bool) → eqb column (filled_column n code row) ≡ b → Sound (string_number n code row column)
    go true m =
        only-sound (string_number n code row column) (filled_power n code row % 2) (unit_of (filled_power n code row)) (omega arith) (unit-finite (filled_power n code row))
        (string-only n code row column h (eqb-true column (filled_column n code row) m))
    go false m = empty-sound (string_number n code row column) (string-empty n code row column h (eqb-false column (filled_column n code row) m))

-- the part that a product of i^p and i^t leaves zero
other-part : (q p t : ℕ) → q < 2 → (q ≡ (p + t) % 2 → ⊥) → 1 - (p % 2 + t % 2) % 2 ≡ q
other-part q p t h ne = below_two (λ w. (q ≡ w → ⊥) → 1 - w ≡ q) (λ g. go q h g) (λ g. stays q h g) ((p % 2 + t % 2) % 2) (omega arith) (λ e. ne (omega arith))
  where
    go : (q : ℕ) → q < 2 → (q ≡ 0 → ⊥) → 1 ≡ q
    go = below_two (λ q. (q ≡ 0 → ⊥) → 1 ≡ q) (λ g. absurd (g refl)) (λ g. refl)

    stays : (q : ℕ) → q < 2 → (q ≡ 1 → ⊥) → 0 ≡ q
    stays = below_two (λ q. (q ≡ 1 → ⊥) → 0 ≡ q) (λ g. refl) (λ g. absurd (g refl))

-- ---- a coefficient

-- part by part
scale : ℕ → Float → Float → Float
scale n x v = v /ᶠ side_of n *ᶠ x /ᶠ side_of n

coefficient-part : (n : ℕ) (x : Float) (b i j k : ℕ) → part_at k (coefficient n x b i j) ≡ scale n x (part_at k (string_number n b j i))
unfolding coefficient divided scaled scale
coefficient-part n x b i j zero = refl
coefficient-part n x b i j (suc k) = refl

-- 1 / d, and -1 / d
unit-over : (n : ℕ) → 1 ≤ n → n ≤ 2 → (s : Bool) → fin s 1 (pos 0) /ᶠ fin false 1 (pos n) ≡ fin s 1 (negsuc (n - 1))
unfolding div round units odd size span climb
unit-over zero a b s = absurd (omega arith)
unit-over (suc zero) a b true = refl
unit-over (suc zero) a b false = refl
unit-over (suc (suc zero)) a b true = refl
unit-over (suc (suc zero)) a b false = refl
unit-over (suc (suc (suc n))) a b s = absurd (omega arith)

module _ (n : ℕ) (x : Float) (some : 1 ≤ n) (few : n ≤ 2) (fit : T (fits binary64 x)) (f : finite x ≡ true) where
  side : side_of n ≡ fin false 1 (pos n)
  side = power-number n (omega arith)

  scale-nought : (v : Float) → Nought v → Nought (scale n x v)
  unfolding scale
  scale-nought v z =
      subst (λ (d : Float). Nought (v /ᶠ d *ᶠ x /ᶠ d)) (sym side)
      (nought-over (v /ᶠ fin false 1 (pos n) *ᶠ x) n (nought-times (v /ᶠ fin false 1 (pos n)) x (nought-over v n z) f))

  scale-unit : (s : Bool) → finite (scale n x (fin s 1 (pos 0))) ≡ true
  unfolding scale
  scale-unit s =
      let d = fin false 1 (pos n) in
      subst (λ (d : Float). finite (fin s 1 (pos 0) /ᶠ d *ᶠ x /ᶠ d) ≡ true) (sym side)
      (finite-over (fin s 1 (pos 0) /ᶠ d *ᶠ x) n (mul-fits binary64 (fin s 1 (pos 0) /ᶠ d) x)
      (ap (λ (w : Float). finite (w *ᶠ x)) (unit-over n some few s) ∙ finite-part s (n - 1) x fit f))

  share-finite : (p : ℕ) → finite (share n p x) ≡ true
  unfolding share unit_of of_bits of_fields odd neg scale
  share-finite p = go (ltb p 2)
    where
      go : (b : Bool) → finite (scale n x (cond b one_f (neg one_f))) ≡ true
      go true = scale-unit false
      go false = scale-unit true

  module _ (b i j : ℕ) (hi : i < 2 ^ n) where
    coefficient-only : i ≡ filled_column n b j → Only (coefficient n x b i j) (filled_power n b j % 2) (share n (filled_power n b j) x)
    unfolding share scale
    coefficient-only e =
        let k = filled_power n b j % 2 in
        let o = string-only n b j i hi e in
        record {
          here = coefficient-part n x b i j k ∙ ap (scale n x) o.here;
          other = subst Nought (sym (coefficient-part n x b i j (1 - k))) (scale-nought (part_at (1 - k) (string_number n b j i)) o.other);
        }

    coefficient-empty : (i ≡ filled_column n b j → ⊥) → Empty (coefficient n x b i j)
    coefficient-empty ne =
        let o = string-empty n b j i hi ne in
        record {
          re = subst Nought (sym (coefficient-part n x b i j 0)) (scale-nought (string_part n b 0 j i) o.re);
          im = subst Nought (sym (coefficient-part n x b i j 1)) (scale-nought (string_part n b 1 j i) o.im);
        }

    coefficient-sound : i ≡ filled_column n b j → Sound (coefficient n x b i j)
    coefficient-sound e = only-sound (coefficient n x b i j) (filled_power n b j % 2) (share n (filled_power n b j) x) (omega arith) (share-finite (filled_power n b j)) (coefficient-only e)

    -- ---- a term

    module _ (a r s : ℕ) (hs : s < 2 ^ n) where
      pub term-there : (w : Float) → Steady w → i ≡ filled_column n b j → s ≡ filled_column n a r
          → w +ᶠ signed (filled_power n b j) (filled_power n a r) (share n (filled_power n b j) x *ᶠ unit_of (filled_power n a r)) ≡ w +ᶠ part_at ((filled_power n b j + filled_power n a r) % 2) (term n x b a i r j s)
      unfolding term signed
      term-there w h e g =
          let pb = filled_power n b j in
          let pa = filled_power n a r in
          let o = coefficient-only e in
          let p = string-only n a r s hs g in
          let q : (pb % 2 + pa % 2) % 2 ≡ (pb + pa) % 2 = omega arith in
          sym
          (ap (λ (q : ℕ). w +ᶠ part_at q (times (coefficient n x b i j) (string_number n a r s))) (sym q)
          ∙ only-there (coefficient n x b i j) (string_number n a r s) (share n pb x) (unit_of pa)
          (coefficient-sound e) (string-sound n a r s hs)
          w h (pb % 2) (pa % 2) (omega arith) (omega arith) o p)

      pub term-elsewhere : (q : ℕ) → q < 2 → (i ≡ filled_column n b j → s ≡ filled_column n a r → q ≡ (filled_power n b j + filled_power n a r) % 2 → ⊥) → Nought (part_at q (term n x b a i r j s))
      unfolding term
      term-elsewhere q hq ne = go (eqb i (filled_column n b j)) (eqb s (filled_column n a r)) refl refl
        where
          go : (c d : Bool) → eqb i (filled_column n b j) ≡ c → eqb s (filled_column n a r) ≡ d → Nought (part_at q (times (coefficient n x b i j) (string_number n a r s)))
          go true true u v =
              let e = eqb-true i (filled_column n b j) u in
              let g = eqb-true s (filled_column n a r) v in
              let k = filled_power n b j % 2 in
              let l = filled_power n a r % 2 in
              subst (λ (q : ℕ). Nought (part_at q (times (coefficient n x b i j) (string_number n a r s)))) (other-part q (filled_power n b j) (filled_power n a r) hq (ne e g))
              (only-other (coefficient n x b i j) (string_number n a r s) (share n (filled_power n b j) x) (unit_of (filled_power n a r)) (coefficient-sound e) (string-sound n a r s hs) k l (omega arith) (omega arith) (coefficient-only e) (string-only n a r s hs g))
          go true false u v = times-empty (coefficient n x b i j) (string_number n a r s) (coefficient-sound (eqb-true i (filled_column n b j) u)) (string-empty n a r s hs (eqb-false s (filled_column n a r) v)) q
          go false d u v = empty-times (coefficient n x b i j) (string_number n a r s) (coefficient-empty (eqb-false i (filled_column n b j) u)) (string-sound n a r s hs) q
