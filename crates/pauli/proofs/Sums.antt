-- Sums of strings, part by part: what one row of a string changes, what a whole string changes, and what all strings sum to. Assumes nothing.
use mathlib.Core.Path.{◌≡◌, refl, sym, ◌∙◌, ap, ap₂, subst}
use mathlib.Core.Bool.{Bool, true, false, cond}
use mathlib.Core.List.{List}
use Prim.Native.Nat.{ℕ, zero, suc, ◌+◌, ◌*◌, ◌/◌, ◌%◌, ◌^◌, ◌<◌, ◌≤◌}
use native.Mathlib.Nat.{div-add-mod', div-lt_iff_lt-mul, mod-lt}
use native.Mathlib.Omega.{arith}
use lib.Dec.{T, eqb, ltb}
use lib.IntN.{pos}
use lib.Pow.{pow_pos}
use lib.ListN.{length}
use lib.Ieee.{Float, nan, inf, fin, binary64, fits, of_bits, of_fields, odd, neg, round, units, span, climb, size, of_int}
use lib.Ieee.Fits.{add-fits, mul-fits}
use borrow.Author.Tests.{eq-eqb, eqb-true, lt-ltb, le-ltb, ltb-true, ltb-false}
use Rattle.lists.specs.Build.{build}
use Rattle.lists.specs.Fold.{fold}
use Rattle.lists.proofs.Filling.{length-build, get_or-build, build-same, build-all, set-build}
use Rattle.lists.proofs.Folding.{build-fold, fold-none, fold_more}
use Rattle.lists.proofs.Parts.{entry-fits, row-of, column-of}
use Rattle.numbers.specs.Number.{zero_f, one_f, ◌+ᶠ◌, ◌*ᶠ◌, ◌/ᶠ◌, finite, Plain}
use Rattle.numbers.specs.Slice.{at}
use Rattle.numbers.proofs.Leaves.{clash}
use Rattle.rounding.proofs.Zeros.{zero-times, add_nothing, add-plain, finite-over}
use Rattle.pauli.specs.Exact.{Gaussian, none}
use Rattle.pauli.specs.Entry.{filled_column, filled_power, power_of_i, filled_place, unit_of, with_entry, AllPlain}
use Rattle.pauli.specs.Density.{part_of, string_part, pinned, weight, density_part, with_string, density_of, tested_of}
use Rattle.refusal.specs.Verdicts.{Verdict, finite_or}
use Rattle.refusal.specs.declared.Refusal.TheVariants.{Operator}
use Rattle.pauli.proofs.Digits.{power_small}
use Rattle.pauli.proofs.Entries.{below_two, below-four, row_of, entry-is, column-small}

-- ---- a power of i: one part is 1 or -1, the other is zero

unit-part : (p : ℕ) → p < 4 → of_int binary64 (part_of (p % 2) (power_of_i p)) ≡ unit_of p
unfolding power_of_i unit_of of_int round units odd size span climb of_bits of_fields neg
unit-part = below-four (λ p. of_int binary64 (part_of (p % 2) (power_of_i p)) ≡ unit_of p) refl refl refl refl

other-part : (p : ℕ) → p < 4 → (q : ℕ) → q < 2 → (q ≡ p % 2 → ⊥) → part_of q (power_of_i p) ≡ pos 0
unfolding power_of_i
other-part =
    below-four (λ p. (q : ℕ) → q < 2 → (q ≡ p % 2 → ⊥) → part_of q (power_of_i p) ≡ pos 0)
    (below_two _ (λ h. absurd (h refl)) (λ h. refl))
    (below_two _ (λ h. refl) (λ h. absurd (h refl)))
    (below_two _ (λ h. absurd (h refl)) (λ h. refl))
    (below_two _ (λ h. refl) (λ h. absurd (h refl)))

zero-part : (q : ℕ) → part_of q none ≡ pos 0
zero-part zero = refl
zero-part (suc q) = refl

zero_number : of_int binary64 (pos 0) ≡ zero_f
unfolding of_int round units odd size span climb of_bits of_fields
zero_number = refl

module _ (n code row column q : ℕ) (h : column < 2 ^ n) where
  part-is : string_part n code q row column ≡ of_int binary64 (part_of q (row_of (filled_column n code row) (filled_power n code row) column))
  part-is = ap (λ (z : Gaussian). of_int binary64 (part_of q z)) (entry-is n code row column h)

  -- the part that is filled
  pub filled-part : column ≡ filled_column n code row → q ≡ filled_power n code row % 2 → string_part n code q row column ≡ unit_of (filled_power n code row)
  filled-part e f =
      part-is
      ∙ ap (λ (z : Gaussian). of_int binary64 (part_of q z)) (ap (λ (b : Bool). cond b (power_of_i (filled_power n code row)) none) (eq-eqb column (filled_column n code row) e))
      ∙ ap (λ (k : ℕ). of_int binary64 (part_of k (power_of_i (filled_power n code row)))) f
      ∙ unit-part (filled_power n code row) (power_small n code row)

  -- every other part of the row
  pub empty-part : q < 2 → (column ≡ filled_column n code row → q ≡ filled_power n code row % 2 → ⊥) → string_part n code q row column ≡ zero_f
  empty-part l e = part-is ∙ go (eqb column (filled_column n code row)) refl ∙ zero_number
    where
      go : (b : Bool) → eqb column (filled_column n code row) ≡ b → of_int binary64 (part_of q (cond b (power_of_i (filled_power n code row)) none)) ≡ of_int binary64 (pos 0)
      go true m = ap (of_int binary64) (other-part (filled_power n code row) (power_small n code row) q l (e (eqb-true column (filled_column n code row) m)))
      go false m = ap (of_int binary64) (zero-part q)

-- ---- places: part k stands at row k / 2 / d and column k / 2 % d, and is real or imaginary by k % 2

module _ (d k : ℕ) (p : 0 < d) where
  place_is : k ≡ 2 * (k / 2 / d * d + k / 2 % d) + k % 2
  place_is = omega (arith, div-add-mod' (k / 2) d)

  row_in : k < 2 * (d * d) → k / 2 / d < d
  row_in h = (div-lt_iff_lt-mul p).1 (omega arith)

-- the place of column c of row r
module _ (d r c q : ℕ) (h : c < d) (l : q < 2) where
  half_of : (2 * (r * d + c) + q) / 2 ≡ r * d + c
  half_of = omega arith

  pub place-row : (2 * (r * d + c) + q) / 2 / d ≡ r
  place-row = rw half_of (row-of r c d h)

  place-column : (2 * (r * d + c) + q) / 2 % d ≡ c
  place-column = rw half_of (column-of r c d h)

-- ---- one string

same-part : (n code q q' r r' c c' : ℕ) → q ≡ q' → r ≡ r' → c ≡ c' → string_part n code q r c ≡ string_part n code q' r' c'
same-part n code q q' r r' c c' a b d = rw (a, b, d)

-- a zero part changes nothing
nothing-added : (x w s : Float) → T (fits binary64 x) → Plain x → finite w ≡ true → s ≡ zero_f → x +ᶠ s *ᶠ w ≡ x
unfolding finite of_bits
nothing-added x nan s h p k e = clash k
nothing-added x (inf t) s h p k e = clash k
nothing-added x (fin t m d) s h p k e = ap (λ (z : Float). x +ᶠ z *ᶠ fin t m d) e ∙ ap (λ (z : Float). x +ᶠ z) (zero-times t m d) ∙ add_nothing x t h p

module _ (n code : ℕ) (w : Float) (l : List Float) where
  -- part k with the string's share, and the list with the shares of the rows below `row`
  abbrev pub shared : ℕ → Float
  shared k = at l k +ᶠ string_part n code (k % 2) (k / 2 / 2 ^ n) (k / 2 % 2 ^ n) *ᶠ w

  abbrev pub partly : ℕ → ℕ → Float
  partly row k = cond (ltb (k / 2 / 2 ^ n) row) (shared k) (at l k)

  abbrev pub rows : ℕ → List Float
  rows row = build (2 * (2 ^ n * 2 ^ n)) (partly row)

  pub rows_none : length l ≡ 2 * (2 ^ n * 2 ^ n) → l ≡ rows 0
  rows_none e =
      sym (build-all nan l)
      ∙ ap (λ (m : ℕ). build m (at l)) e
      ∙ build-same (2 * (2 ^ n * 2 ^ n)) (at l) (partly 0) (λ k _. ap (λ (b : Bool). cond b (shared k) (at l k)) (sym (le-ltb (k / 2 / 2 ^ n) 0 (omega arith))))

  pub rows_all : (row : ℕ) → 2 ^ n ≤ row → rows row ≡ with_string n code w l
  unfolding with_string
  rows_all row h =
      build-same (2 * (2 ^ n * 2 ^ n)) (partly row) shared
      (λ k m. ap (λ (b : Bool). cond b (shared k) (at l k)) (lt-ltb (k / 2 / 2 ^ n) row (let r = row_in (2 ^ n) k (pow_pos n) m in omega arith)))

  module _ (row : ℕ) (h : row < 2 ^ n) (fw : finite w ≡ true) (plain : AllPlain l) (len : length l ≡ 2 * (2 ^ n * 2 ^ n)) where
    place : ℕ
    place = 2 * (row * 2 ^ n + filled_column n code row) + filled_power n code row % 2

    bit : filled_power n code row % 2 < 2
    bit = omega arith

    pub rows_more : filled_column n code row < 2 ^ n → with_entry n code w row (rows row) ≡ rows (row + 1)
    unfolding with_entry filled_place place
    rows_more c =
        set-build nan (2 * (2 ^ n * 2 ^ n)) place (partly row) (partly (row + 1)) (at (rows row) place +ᶠ unit_of (filled_power n code row) *ᶠ w) inside value other
      where
        inside : place < 2 * (2 ^ n * 2 ^ n)
        inside = let e = entry-fits row (filled_column n code row) (2 ^ n) (2 ^ n) h c in omega arith

        its-row : place / 2 / 2 ^ n ≡ row
        its-row = place-row (2 ^ n) row (filled_column n code row) (filled_power n code row % 2) c bit

        value : at (rows row) place +ᶠ unit_of (filled_power n code row) *ᶠ w ≡ partly (row + 1) place
        value =
            ap₂ (λ (x u : Float). x +ᶠ u *ᶠ w)
            (get_or-build nan (2 * (2 ^ n * 2 ^ n)) place (partly row) inside
            ∙ ap (λ (b : Bool). cond b (shared place) (at l place)) (le-ltb (place / 2 / 2 ^ n) row (omega (arith, its-row))))
            (sym
            (same-part n code (place % 2) (filled_power n code row % 2) (place / 2 / 2 ^ n) row (place / 2 % 2 ^ n) (filled_column n code row) (omega arith) its-row
            (place-column (2 ^ n) row (filled_column n code row) (filled_power n code row % 2) c bit)
            ∙ filled-part n code row (filled_column n code row) (filled_power n code row % 2) c refl refl))
            ∙ ap (λ (b : Bool). cond b (shared place) (at l place)) (sym (lt-ltb (place / 2 / 2 ^ n) (row + 1) (omega (arith, its-row))))

        -- a part of this row that the string leaves as it is
        left_alone : (k : ℕ) → k < 2 * (2 ^ n * 2 ^ n) → (k ≡ place → ⊥) → k / 2 / 2 ^ n ≡ row → at l k ≡ shared k
        left_alone k m ne r =
            sym
            (nothing-added (at l k) w (string_part n code (k % 2) (k / 2 / 2 ^ n) (k / 2 % 2 ^ n)) (plain.fit k (omega arith)) (plain.plain k (omega arith)) fw
            (same-part n code (k % 2) (k % 2) (k / 2 / 2 ^ n) row (k / 2 % 2 ^ n) (k / 2 % 2 ^ n) refl r refl
            ∙ empty-part n code row (k / 2 % 2 ^ n) (k % 2) (mod-lt (k / 2) (pow_pos n)) (omega arith)
            (λ e f.
            ne
            (place_is (2 ^ n) k (pow_pos n)
            ∙ ap₂ (λ (x y : ℕ). 2 * (x * 2 ^ n + y) + k % 2) r e
            ∙ ap (λ (y : ℕ). 2 * (row * 2 ^ n + filled_column n code row) + y) f))))

        other : (k : ℕ) → k < 2 * (2 ^ n * 2 ^ n) → (k ≡ place → ⊥) → partly row k ≡ partly (row + 1) k
        other k m ne = go (ltb (k / 2 / 2 ^ n) row) (ltb (k / 2 / 2 ^ n) (row + 1)) refl refl
          where
            go : (a b : Bool) → ltb (k / 2 / 2 ^ n) row ≡ a → ltb (k / 2 / 2 ^ n) (row + 1) ≡ b → cond a (shared k) (at l k) ≡ cond b (shared k) (at l k)
            go true true p q = refl
            go true false p q = absurd (omega (arith, ltb-true (k / 2 / 2 ^ n) row p, ltb-false (k / 2 / 2 ^ n) (row + 1) q))
            go false true p q = left_alone k m ne (omega (arith, ltb-false (k / 2 / 2 ^ n) row p, ltb-true (k / 2 / 2 ^ n) (row + 1) q))
            go false false p q = refl

-- the loop over the rows of a string
pub rows_start : (n d code : ℕ) (w : Float) (l : List Float) → d ≡ 2 ^ n → length l ≡ 2 * (d * d) → l ≡ rows n code w l 0
rows_start n d code w l e h = rows_none n code w l (subst (λ (x : ℕ). length l ≡ 2 * (x * x)) e h)

pub rows-turn : (n d code row : ℕ) (w : Float) (l out next : List Float) → d ≡ 2 ^ n → row < d → finite w ≡ true → AllPlain l → length l ≡ 2 * (d * d)
    → out ≡ rows n code w l row → next ≡ with_entry n code w row out → next ≡ rows n code w l (row + 1)
rows-turn n d code row w l out next e h f p len a b =
    b
    ∙ ap (with_entry n code w row) a
    ∙ rows_more n code w l row (omega arith) f p (subst (λ (x : ℕ). length l ≡ 2 * (x * x)) e len) (column-small n code row)

-- a string's share keeps all numbers plain
pub with-plain : (n code : ℕ) (w : Float) (l : List Float) → length l ≡ 2 * (2 ^ n * 2 ^ n) → AllPlain l → AllPlain (with_string n code w l)
unfolding with_string
with-plain n code w l len plain = record { plain = λ k h. subst Plain (sym (entry k h)) (keeps k (bound k h)); fit = λ k h. subst (λ (x : Float). T (fits binary64 x)) (sym (entry k h)) (add-fits binary64 (at l k) (share k)) }
  where
    share : ℕ → Float
    share k = string_part n code (k % 2) (k / 2 / 2 ^ n) (k / 2 % 2 ^ n) *ᶠ w

    bound : (k : ℕ) → k < length (build (2 * (2 ^ n * 2 ^ n)) (λ k. at l k +ᶠ share k)) → k < 2 * (2 ^ n * 2 ^ n)
    bound k h = omega (arith, length-build (2 * (2 ^ n * 2 ^ n)) (λ k. at l k +ᶠ share k))

    entry : (k : ℕ) → k < length (build (2 * (2 ^ n * 2 ^ n)) (λ k. at l k +ᶠ share k)) → at (build (2 * (2 ^ n * 2 ^ n)) (λ k. at l k +ᶠ share k)) k ≡ at l k +ᶠ share k
    entry k h = get_or-build nan (2 * (2 ^ n * 2 ^ n)) k (λ k. at l k +ᶠ share k) (bound k h)

    keeps : (k : ℕ) → k < 2 * (2 ^ n * 2 ^ n) → Plain (at l k +ᶠ share k)
    keeps k h = add-plain (at l k) (share k) (plain.fit k (omega arith)) (mul-fits binary64 (string_part n code (k % 2) (k / 2 / 2 ^ n) (k / 2 % 2 ^ n)) w) (plain.plain k (omega arith))

-- ---- all strings

-- zeros are plain
pub zeros-plain : (m : ℕ) → AllPlain (build m (λ _. zero_f))
unfolding of_bits of_fields odd fits
zeros-plain m = record { plain = λ k h. subst Plain (sym (zero-at k h)) tt; fit = λ k h. subst (λ (x : Float). T (fits binary64 x)) (sym (zero-at k h)) tt }
  where
    zero-at : (k : ℕ) → k < length (build m (λ _. zero_f)) → at (build m (λ _. zero_f)) k ≡ zero_f
    zero-at k h = get_or-build nan m k (λ _. zero_f) (omega (arith, length-build m (λ _. zero_f)))

-- string after string is part by part
pub density-is : (n : ℕ) (es : List Float) → fold (4 ^ n) (λ code l. with_string n code (weight (2 ^ n) es code) l) (build (2 * (2 ^ n * 2 ^ n)) (λ _. zero_f)) ≡ density_of n es
unfolding with_string density_of density_part
density-is n es =
    build-fold nan (2 * (2 ^ n * 2 ^ n)) (4 ^ n) (λ code k sum. sum +ᶠ string_part n code (k % 2) (k / 2 / 2 ^ n) (k / 2 % 2 ^ n) *ᶠ weight (2 ^ n) es code) (λ _. zero_f)

-- the loop over the strings: what stands after `code` of them
pub record Strings (n : ℕ) (es : List Float) (code : ℕ) (out : List Float) : Type 0 where
  pub size : length out ≡ 2 * (2 ^ n * 2 ^ n)
  pub plain : AllPlain out
  pub is : out ≡ fold code (λ code l. with_string n code (weight (2 ^ n) es code) l) (build (2 * (2 ^ n * 2 ^ n)) (λ _. zero_f))

pub strings-none : (n d : ℕ) (es l out : List Float) → d ≡ 2 ^ n → length l ≡ 2 * (d * d) → out ≡ build (length l) (λ _. zero_f) → Strings n es 0 out
strings-none n d es l out e h b =
    let m : length l ≡ 2 * (2 ^ n * 2 ^ n) = subst (λ (x : ℕ). length l ≡ 2 * (x * x)) e h in
    record {
      size = ap length b ∙ length-build (length l) (λ _. zero_f) ∙ m;
      plain = subst AllPlain (sym b) (zeros-plain (length l));
      is = b ∙ ap (λ (k : ℕ). build k (λ _. zero_f)) m ∙ fold-none _ _;
    }

pub strings-more : (n d : ℕ) (es : List Float) (code : ℕ) (w : Float) (out next : List Float) → d ≡ 2 ^ n → w ≡ weight d es code → Strings n es code out → next ≡ with_string n code w out → Strings n es (code + 1) next
unfolding with_string
strings-more n d es code w out next e v s b =
    let v' : w ≡ weight (2 ^ n) es code = v ∙ ap (λ (x : ℕ). weight x es code) e in
    record {
      size = ap length b ∙ length-build (2 * (2 ^ n * 2 ^ n)) _;
      plain = subst AllPlain (sym b) (with-plain n code w out s.size s.plain);
      is = fold_more _ code _ out next s.is (b ∙ ap (λ (x : Float). with_string n code x out) v');
    }

pub strings-all : (n : ℕ) (es : List Float) (code : ℕ) (out : List Float) → code ≡ 4 ^ n → Strings n es code out → out ≡ density_of n es
strings-all n es code out e s = s.is ∙ ap (λ (k : ℕ). fold k (λ code l. with_string n code (weight (2 ^ n) es code) l) (build (2 * (2 ^ n * 2 ^ n)) (λ _. zero_f))) e ∙ density-is n es

-- the same size, in the code's d
pub size_in : (n d : ℕ) (out : List Float) → d ≡ 2 ^ n → length out ≡ 2 * (2 ^ n * 2 ^ n) → length out ≡ 2 * (d * d)
size_in n d out e h = subst (λ (x : ℕ). length out ≡ 2 * (x * x)) (sym e) h

-- a weight is finite
pub power-number : (n : ℕ) → n < 4 → of_int binary64 (pos (2 ^ n)) ≡ fin false 1 (pos n)
unfolding of_int round units odd size span climb
power-number = below-four (λ n. of_int binary64 (pos (2 ^ n)) ≡ fin false 1 (pos n)) refl refl refl refl

pub weight-finite : (n d : ℕ) (es : List Float) (code : ℕ) → n ≤ 3 → d ≡ 2 ^ n → T (fits binary64 (at es code)) → finite (at es code) ≡ true → finite (weight d es code) ≡ true
unfolding weight pinned finite of_bits of_fields odd fits
weight-finite n d es code h e f k =
    ap (λ (x : Float). finite (pinned es code /ᶠ x)) (ap (λ (m : ℕ). of_int binary64 (pos m)) e ∙ power-number n (omega arith))
    ∙ go (eqb code 0)
  where
    go : (b : Bool) → finite (cond b one_f (at es code) /ᶠ fin false 1 (pos n)) ≡ true
    go true = finite-over one_f n tt refl
    go false = finite-over (at es code) n f k

pub length-density : (n d : ℕ) (es : List Float) → d ≡ 2 ^ n → length (density_of n es) ≡ 2 * (d * d)
unfolding density_of
length-density n d es e = size_in n d (density_of n es) e (length-build (2 * (2 ^ n * 2 ^ n)) _)

pub room : (n d k : ℕ) → d ≡ 2 ^ n → 2 * (2 ^ n * 2 ^ n) ≤ k → 2 * (d * d) ≤ k
room n d k e h = subst (λ (x : ℕ). 2 * (x * x) ≤ k) (sym e) h

-- the outcome, from the test of the front of the slice
pub tested : (n : ℕ) (es front : List Float) (v : Verdict) → front ≡ density_of n es → v ≡ finite_or Operator front → v ≡ tested_of n es
unfolding tested_of
tested n es front v f g = g ∙ ap (finite_or Operator) f
