-- The terms that are not zero sum to the Choi matrix. Assumes nothing.
use mathlib.Core.Path.{◌≡◌, refl, sym, ◌∙◌, ap, ap₂, subst}
use mathlib.Core.Bool.{true}
use mathlib.Core.List.{List}
use Prim.Native.Nat.{ℕ, zero, suc, ◌+◌, ◌*◌, ◌/◌, ◌%◌, ◌^◌, ◌<◌, ◌≤◌}
use native.Mathlib.Nat.{div-add-mod', div-lt_iff_lt-mul, mod-lt}
use native.Mathlib.Omega.{arith}
use lib.Dec.{T}
use lib.Pow.{pow_pos}
use lib.ListN.{length, set}
use lib.Ieee.{Float, nan, binary64, fits, of_bits, of_fields, odd}
use lib.Ieee.Fits.{add-fits, sub-fits}
use Rattle.lists.specs.Build.{build}
use Rattle.lists.specs.Fold.{fold}
use Rattle.lists.proofs.Filling.{length-build, get_or-build, build-same}
use Rattle.lists.proofs.Folding.{build-fold}
use Rattle.lists.proofs.Parts.{entry-fits, row-of, column-of}
use Rattle.numbers.specs.Number.{zero_f, finite, ◌+ᶠ◌, ◌*ᶠ◌}
use Rattle.numbers.specs.Slice.{at, all_finite}
use Rattle.numbers.proofs.Finite.{each-finite}
use Rattle.rounding.proofs.Zeros.{add-plain}
use Rattle.complex.specs.Arithmetic.{times}
use Rattle.refusal.specs.declared.Refusal.TheVariants.{Operator}
use Rattle.refusal.specs.Verdicts.{Verdict, finite_or}
use Rattle.pauli.specs.Entry.{filled_column, filled_power, unit_of}
use Rattle.pauli.proofs.Entries.{column-small}
use Rattle.choi.specs.Choi.{coefficient, string_number, term, transfer_at, part_at, choi_part, row_at, column_at, on_place, choi_of, choi_tested}
use Rattle.choi.specs.Sparse.{Sides, place_of, share, signed, with_term, with_row, with_pair, with_string, sparse_of}
use Rattle.choi.proofs.Noughts.{Steady, gone}
use Rattle.choi.proofs.Places.{inside, place_is, row_in, column-in, at_place}
use Rattle.choi.proofs.Scatter.{fold-nested, fold-alike, Scattered, scattered}
use Rattle.choi.proofs.Terms.{term-there, term-elsewhere}

-- a sum so far: no part is -0
pub record Level (m : ℕ) (l : List Float) : Type 0 where
  pub long : length l ≡ m
  pub steady : (k : ℕ) → k < m → Steady (at l k)

-- ---- one pair of strings

-- what the pair b, a adds to part k
abbrev added : ℕ → Float → ℕ → ℕ → ℕ → Float
added n x b a k = on_place n (λ q i r j s. part_at q (term n x b a i r j s)) k

abbrev densely : ℕ → Float → ℕ → ℕ → List Float → List Float
densely n x b a l = build (2 * (4 ^ n * 4 ^ n)) (λ k. at l k +ᶠ added n x b a k)

-- the rows of the two strings that an entry is of, and the place that they fill
abbrev slot_of : ℕ → ℕ → ℕ
slot_of n k = on_place n (λ _ _ r j _. j * 2 ^ n + r) k

abbrev filled_at : ℕ → ℕ → ℕ → ℕ → ℕ → ℕ
filled_at n b a j r = place_of n ((filled_power n b j + filled_power n a r) % 2) (filled_column n b j) r j (filled_column n a r)

abbrev filled_term : ℕ → Float → ℕ → ℕ → ℕ → ℕ → Float
filled_term n x b a j r = signed (filled_power n b j) (filled_power n a r) (share n (filled_power n b j) x *ᶠ unit_of (filled_power n a r))

module _ (n : ℕ) (x : Float) (some : 1 ≤ n) (few : n ≤ 2) (fit : T (fits binary64 x)) (f : finite x ≡ true) (b a : ℕ) where
  row-of-slot : (q : ℕ) → q < 2 ^ n * 2 ^ n → q / 2 ^ n < 2 ^ n
  row-of-slot q h = (div-lt_iff_lt-mul (pow_pos n)).1 h

  rest-of-slot : (q : ℕ) → q % 2 ^ n < 2 ^ n
  rest-of-slot q = mod-lt q (pow_pos n)

  read : {A : Type 0} (g : ℕ → ℕ → ℕ → ℕ → ℕ → A) (j r : ℕ) → j < 2 ^ n → r < 2 ^ n
      → on_place n g (filled_at n b a j r) ≡ g ((filled_power n b j + filled_power n a r) % 2) (filled_column n b j) r j (filled_column n a r)
  read g j r hj hr = at_place n ((filled_power n b j + filled_power n a r) % 2) (filled_column n b j) r j (filled_column n a r) few (omega arith) hr hj (column-small n a r) g

  filled_in : (j r : ℕ) → j < 2 ^ n → r < 2 ^ n → filled_at n b a j r < 2 * (4 ^ n * 4 ^ n)
  unfolding place_of
  filled_in j r hj hr =
      let w = inside n (2 ^ n) (4 ^ n) (filled_column n b j) r j (filled_column n a r) (record { some = some; few = few; side = refl; strings = refl }) (column-small n b j) hr hj (column-small n a r) in
      omega arith

  -- part k is the one that its rows fill
  filled_is : (k : ℕ) → k % 2 ≡ (filled_power n b (column_at n k / 2 ^ n) + filled_power n a (row_at n k % 2 ^ n)) % 2 → row_at n k / 2 ^ n ≡ filled_column n b (column_at n k / 2 ^ n)
      → column_at n k % 2 ^ n ≡ filled_column n a (row_at n k % 2 ^ n) → k ≡ filled_at n b a (slot_of n k / 2 ^ n) (slot_of n k % 2 ^ n)
  filled_is k p i s =
      let j = column_at n k / 2 ^ n in
      let r = row_at n k % 2 ^ n in
      place_is n k few
      ∙ ap₂ (λ (q i : ℕ). place_of n q i r j (column_at n k % 2 ^ n)) p i
      ∙ ap (λ (s : ℕ). place_of n ((filled_power n b j + filled_power n a r) % 2) (filled_column n b j) r j s) s
      ∙ sym (ap₂ (λ (j r : ℕ). filled_at n b a j r) (row-of j r (2 ^ n) (rest-of-slot (row_at n k))) (column-of j r (2 ^ n) (rest-of-slot (row_at n k))))

  pair-scattered : (l : List Float) → Level (2 * (4 ^ n * 4 ^ n)) l
      → Scattered (2 * (4 ^ n * 4 ^ n)) (2 ^ n * 2 ^ n) l (added n x b a) (λ q. filled_term n x b a (q / 2 ^ n) (q % 2 ^ n)) (slot_of n) (λ q. filled_at n b a (q / 2 ^ n) (q % 2 ^ n))
  pair-scattered l v =
      record {
        within = λ q h. filled_in (q / 2 ^ n) (q % 2 ^ n) (row-of-slot q h) (rest-of-slot q);
        back = λ q h. read (λ _ _ r j _. j * 2 ^ n + r) (q / 2 ^ n) (q % 2 ^ n) (row-of-slot q h) (rest-of-slot q) ∙ div-add-mod' q (2 ^ n);
        few = λ k h. entry-fits (column_at n k / 2 ^ n) (row_at n k % 2 ^ n) (2 ^ n) (2 ^ n) (column-in n k few) (rest-of-slot (row_at n k));
        there = λ q h.
            let j = q / 2 ^ n in
            let r = q % 2 ^ n in
            let w = at l (filled_at n b a j r) in
            term-there n x some few fit f b (filled_column n b j) j (column-small n b j) a r (filled_column n a r) (column-small n a r) w (v.steady (filled_at n b a j r) (filled_in j r (row-of-slot q h) (rest-of-slot q))) refl refl
            ∙ ap (λ (z : Float). w +ᶠ z) (sym (read (λ q i r j s. part_at q (term n x b a i r j s)) j r (row-of-slot q h) (rest-of-slot q)));
        elsewhere = λ k h ne.
            gone (at l k) (added n x b a k) (v.steady k h)
            (term-elsewhere n x some few fit f b (row_at n k / 2 ^ n) (column_at n k / 2 ^ n) (row_in n k few h) a (row_at n k % 2 ^ n) (column_at n k % 2 ^ n) (rest-of-slot (column_at n k)) (k % 2) (omega arith)
            (λ i s p. ne (filled_is k p i s)));
      }

  pub pair_is : (l : List Float) → Level (2 * (4 ^ n * 4 ^ n)) l → with_pair n b a x l ≡ densely n x b a l
  unfolding with_pair with_row with_term
  pair_is l v =
      sym (fold-nested (λ j r t. set t (filled_at n b a j r) (at t (filled_at n b a j r) +ᶠ filled_term n x b a j r)) (2 ^ n) (2 ^ n) l)
      ∙ scattered (2 * (4 ^ n * 4 ^ n)) (2 ^ n * 2 ^ n) l (added n x b a) (λ q. filled_term n x b a (q / 2 ^ n) (q % 2 ^ n)) (slot_of n) (λ q. filled_at n b a (q / 2 ^ n) (q % 2 ^ n)) (pair-scattered l v) v.long

-- a pair keeps the parts from being -0
term_fits : (n : ℕ) (x : Float) (b a i r j s q : ℕ) → T (fits binary64 (part_at q (term n x b a i r j s)))
unfolding term times
term_fits n x b a i r j s zero = let X = coefficient n x b i j in let Y = string_number n a r s in sub-fits binary64 (X.re *ᶠ Y.re) (X.im *ᶠ Y.im)
term_fits n x b a i r j s (suc q) = let X = coefficient n x b i j in let Y = string_number n a r s in add-fits binary64 (X.re *ᶠ Y.im) (X.im *ᶠ Y.re)

pair-level : (n : ℕ) (x : Float) (b a : ℕ) (l : List Float) → Level (2 * (4 ^ n * 4 ^ n)) l → Level (2 * (4 ^ n * 4 ^ n)) (densely n x b a l)
pair-level n x b a l v =
    record {
      long = length-build (2 * (4 ^ n * 4 ^ n)) (λ k. at l k +ᶠ added n x b a k);
      steady = λ k h.
          subst Steady (sym (get_or-build nan (2 * (4 ^ n * 4 ^ n)) k (λ k. at l k +ᶠ added n x b a k) h))
          record {
            plain = add-plain (at l k) (added n x b a k) (v.steady k h).fit (term_fits n x b a (row_at n k / 2 ^ n) (row_at n k % 2 ^ n) (column_at n k / 2 ^ n) (column_at n k % 2 ^ n) (k % 2)) (v.steady k h).plain;
            fit = add-fits binary64 (at l k) (added n x b a k);
          };
    }

zeros-level : (m : ℕ) → Level m (build m (λ _. zero_f))
unfolding of_bits of_fields odd fits
zeros-level m = record { long = length-build m (λ _. zero_f); steady = λ k h. subst Steady (sym (get_or-build nan m k (λ _. zero_f) h)) record { plain = tt; fit = tt } }

-- ---- all pairs

module _ (n : ℕ) (values : List Float) (some : 1 ≤ n) (few : n ≤ 2) (long : length values ≡ 4 ^ n * 4 ^ n) (all : all_finite values ≡ true) (fit : (i : ℕ) → T (fits binary64 (at values i))) where
  value : ℕ → Float
  value c = transfer_at n values (c % 4 ^ n) (c / 4 ^ n)

  value-finite : (c : ℕ) → c < 4 ^ n * 4 ^ n → finite (value c) ≡ true
  unfolding value
  value-finite c h =
      let p : 0 < 4 ^ n = some-four n (4 ^ n) c h in
      each-finite values (c % 4 ^ n * 4 ^ n + c / 4 ^ n) all (subst (λ (k : ℕ). c % 4 ^ n * 4 ^ n + c / 4 ^ n < k) (sym long) (entry-fits (c % 4 ^ n) (c / 4 ^ n) (4 ^ n) (4 ^ n) (mod-lt c p) ((div-lt_iff_lt-mul p).1 h)))
    where
      some-four : (n k c : ℕ) → c < k * k → 0 < k
      some-four n zero c h = absurd (omega arith)
      some-four n (suc k) c h = omega arith

  pub sparse-is : sparse_of n values ≡ choi_of n values
  unfolding sparse_of with_string choi_of choi_part value
  sparse-is =
      let m = 2 * (4 ^ n * 4 ^ n) in
      let p = 4 ^ n in
      sym (fold-nested (λ b a t. with_pair n b a (transfer_at n values a b) t) p p (build m (λ _. zero_f)))
      ∙ fold-alike (Level m) (λ c t. with_pair n (c / p) (c % p) (value c) t) (λ c t. densely n (value c) (c / p) (c % p) t) (p * p) (build m (λ _. zero_f)) (zeros-level m)
      (λ c t h v. pair-level n (value c) (c / p) (c % p) t v)
      (λ c t h v. pair_is n (value c) some few (fit (c % p * p + c / p)) (value-finite c h) (c / p) (c % p) t v)
      ∙ build-fold nan m (p * p) (λ c k sum. sum +ᶠ added n (value c) (c / p) (c % p) k) (λ _. zero_f)
      ∙ build-same m _ _ (λ k h. fold-nested (λ b a sum. sum +ᶠ added n (transfer_at n values a b) b a k) p p zero_f)

-- the loop over all strings, at its end
pub choi-is : (n d p : ℕ) (values out : List Float) (b : ℕ) → Sides n d p → length values ≡ p * p → all_finite values ≡ true → ((i : ℕ) → T (fits binary64 (at values i))) → b ≡ p
    → out ≡ fold b (λ b l. with_string n values b l) (build (2 * (4 ^ n * 4 ^ n)) (λ _. zero_f)) → out ≡ choi_of n values
unfolding sparse_of
choi-is n d p values out b z long all fit e o =
    o
    ∙ ap (λ (k : ℕ). fold k (λ b l. with_string n values b l) (build (2 * (4 ^ n * 4 ^ n)) (λ _. zero_f))) (e ∙ z.strings)
    ∙ sparse-is n values z.some z.few (long ∙ ap₂ (λ (x y : ℕ). x * y) z.strings z.strings) all fit

pub length-choi : (n p : ℕ) (values : List Float) → p ≡ 4 ^ n → length (choi_of n values) ≡ 2 * (p * p)
unfolding choi_of
length-choi n p values e = length-build (2 * (4 ^ n * 4 ^ n)) _ ∙ rw e

-- the outcome, from the test of the front of the slice
pub tested : (n : ℕ) (values front : List Float) (v : Verdict) → front ≡ choi_of n values → v ≡ finite_or Operator front → v ≡ choi_tested n values
unfolding choi_tested
tested n values front v f g = g ∙ ap (finite_or Operator) f
