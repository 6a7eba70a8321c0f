-- The rows before the first step, and the right half after the last. Assumes nothing.
use mathlib.Core.Path.{◌≡◌, refl, sym, ◌∙◌, ap, ap₂, subst}
use mathlib.Core.Bool.{Bool, true, false, cond}
use mathlib.Core.List.{List, [], ◌++◌, append-nil}
use Prim.Native.Nat.{ℕ, zero, suc, ◌+◌, ◌-◌, ◌*◌, ◌/◌, ◌%◌, ◌≤◌, ◌<◌}
use native.Mathlib.Nat.{not-suc-le-zero, zero-lt-suc, div-lt_iff_lt-mul, mod-lt}
use native.Mathlib.Omega.{arith}
use lib.Dec.{eqb}
use lib.ListN.{length, take, drop, get_or, length-append, length-drop, drop_of_length-le}
use lib.Seq.{take_at, take_all, get_or-drop}
use lib.Count.{count_trailing_zeros}
use lib.Ieee.{Float, nan, of_bits, of_fields, odd, add, sum, round, size, units, span, climb}
use Rattle.lists.specs.Build.{build}
use borrow.Author.Tests.{eq-eqb, ne_eqb, eqb-true, eqb-false, lt-ltb, le-ltb}
use Rattle.lists.proofs.Choices.{yes, no}
use Rattle.lists.proofs.Filling.{length-build, build-same, get_or-build, build-part}
use Rattle.lists.proofs.Parts.{row-of, column-of, entry-fits, row_fits}
use Rattle.lists.proofs.Rows.{build-append}
use Rattle.numbers.specs.Number.{zero_f, one_f, ◌+ᶠ◌}
use Rattle.numbers.specs.Slice.{at, blank}
use Rattle.matrix.specs.Product.{cell}
use Rattle.matrix.proofs.Sums.{lent-row, row-long, part_at}
use Rattle.inversion.specs.Inversion.{beside_at, beside_identity, right_halves}
use Rattle.inversion.specs.Kept.{start_at, start_rows, right_entry, Vacant, Keeps, kept_right}

-- number z of the rows before the first step
abbrev pub start_number : ℕ → List Float → ℕ → Float
start_number n a z = start_at n a (z / (2 * n + 2)) (z % (2 * n + 2))

pub start-numbers : (n : ℕ) (a : List Float) (i : ℕ) → build (2 * n + 2) (start_at n a i) ≡ build (2 * n + 2) (λ j. start_number n a (i * (2 * n + 2) + j))
start-numbers n a i = build-same (2 * n + 2) _ (λ j. start_number n a (i * (2 * n + 2) + j)) (λ j h. rw (row-of i j (2 * n + 2), column-of i j (2 * n + 2)))

-- a list from entry n on, lent: all that is there
back-all : (n : ℕ) (l : List Float) → take (length l - n) (drop n l) ≡ drop n l
back-all n l = take_all (length l - n) (drop n l) (omega (arith, length-drop n l))

-- row i of a, lent by its places and copied to the front of r as y, and zeros, put after it as u
pub start_back : (n i b e : ℕ) (a r y u : List Float) → i < n → n * n ≤ length a → length r ≡ 2 * n + 2 → (b ≡ i * n) × (e ≡ i * n + n)
    → y ≡ take (e - b) (drop b a)
    → u ≡ blank (take (length (y ++ drop n r) - n) (drop n (y ++ drop n r)))
    → take n (y ++ drop n r) ++ (u ++ drop (length (y ++ drop n r) - n) (drop n (y ++ drop n r))) ≡ build (2 * n + 2) (start_at n a i)
unfolding start_at blank
start_back n i b e a r y u h k m q p v =
    let long : length y ≡ n = ap length (p ∙ lent-row a i n b e q) ∙ row-long a i n h k in
    let all : length (drop n (y ++ drop n r)) ≡ n + 2 = simp (length-append, length-drop) (omega arith) in
    let none : drop (length (y ++ drop n r) - n) (drop n (y ++ drop n r)) ≡ [] = drop_of_length-le (drop n (y ++ drop n r)) {i = length (y ++ drop n r) - n} (omega (arith, length-drop n (y ++ drop n r))) in
    let two : 2 * n + 2 ≡ n + (n + 2) = omega arith in
    ap₂ ◌++◌
    (take_at y (drop n r) n long
    ∙ p
    ∙ lent-row a i n b e q
    ∙ sym (build-part nan (i * n) n a (row_fits i n n (length a) h k))
    ∙ build-same n _ (start_at n a i) (λ j l. yes _ (lt-ltb j n l)))
    (ap₂ ◌++◌ (v ∙ ap blank (back-all n (y ++ drop n r))) none
    ∙ append-nil _
    ∙ ap (λ (c : ℕ). build c (λ _. zero_f)) all
    ∙ build-same (n + 2) _ (λ j. start_at n a i (n + j)) (λ j l. no _ (le-ltb (n + j) n (omega arith)) refl))
    ∙ sym (ap (λ (c : ℕ). build c (start_at n a i)) two ∙ build-append n (n + 2) (start_at n a i))

-- ---- entries

start-entry : (n : ℕ) (a : List Float) (i j : ℕ) → i < n → j < 2 * n + 2 → cell (2 * n + 2) (start_rows n a) i j ≡ start_at n a i j
unfolding start_rows
start-entry n a i j il jl = get_or-build nan (n * (2 * n + 2)) (i * (2 * n + 2) + j) _ (entry-fits i j n (2 * n + 2) il jl) ∙ rw (row-of i j (2 * n + 2) jl, column-of i j (2 * n + 2) jl)

beside-entry : (n : ℕ) (a : List Float) (i j : ℕ) → i < n → j < 2 * n → cell (2 * n) (beside_identity n a) i j ≡ beside_at n a i j
unfolding beside_identity
beside-entry n a i j il jl = get_or-build nan (n * (2 * n)) (i * (2 * n) + j) _ (entry-fits i j n (2 * n) il jl) ∙ rw (row-of i j (2 * n) jl, column-of i j (2 * n) jl)

-- the zeros of the rows before the first step
start-zero : (n : ℕ) (a : List Float) (i j : ℕ) → i < n → n ≤ j → j < 2 * n + 2 → cell (2 * n + 2) (start_rows n a) i j ≡ zero_f
unfolding start_at
start-zero n a i j il nj jl = start-entry n a i j il jl ∙ sym (no _ (le-ltb j n nj) refl)

pub length-beside : (n : ℕ) (a : List Float) → length (beside_identity n a) ≡ n * (2 * n)
unfolding beside_identity
length-beside n a = length-build (n * (2 * n)) _

length-start : (n : ℕ) (a : List Float) → length (start_rows n a) ≡ n * (2 * n + 2)
unfolding start_rows
length-start n a = length-build (n * (2 * n + 2)) _

module _ (n : ℕ) (a : List Float) where
  first-left : (i j : ℕ) → i < n → 0 ≤ j → j < n → cell (2 * n + 2) (start_rows n a) i j ≡ cell (2 * n) (beside_identity n a) i j
  unfolding start_at beside_at
  first-left i j il _ jn =
      start-entry n a i j il (omega arith)
      ∙ sym (yes _ (lt-ltb j n jn))
      ∙ yes _ (lt-ltb j n jn)
      ∙ sym (beside-entry n a i j il (omega arith))

  first-zero : (i : ℕ) → i < n → cell (2 * n + 2) (start_rows n a) i (n + 0) ≡ zero_f
  first-zero i il = start-zero n a i (n + 0) il (omega arith) (omega arith)

  first-right : (i c : ℕ) → i < n → c < n → cell (2 * n) (beside_identity n a) i (n + c) ≡ right_entry n 0 (start_rows n a) c i
  unfolding beside_at right_entry of_bits of_fields odd add sum round size units span climb count_trailing_zeros
  first-right i c il cn =
      beside-entry n a i (n + c) il (omega arith)
      ∙ sym (no _ (le-ltb (n + c) n (omega arith)) refl)
      ∙ go (eqb i c) refl
      ∙ no _ (le-ltb c 0 (omega arith)) refl
    where
      go : (b : Bool) → eqb i c ≡ b
          → cond (eqb (n + c) (n + i)) one_f zero_f ≡ cond (eqb i c) (cell (2 * n + 2) (start_rows n a) i (n + 0) +ᶠ one_f) (cell (2 * n + 2) (start_rows n a) i (n + 0))
      go true b =
          let e = eqb-true i c b in
          sym (yes _ (eq-eqb (n + c) (n + i) (omega arith))) ∙ ap (λ (x : Float). x +ᶠ one_f) (sym (first-zero i il)) ∙ yes _ b
      go false b =
          let o = eqb-false i c b in
          sym (no _ (ne_eqb (n + c) (n + i) (λ e. o (omega arith))) refl) ∙ sym (first-zero i il) ∙ no _ b refl

  -- before the first step
  pub keeps-first : Keeps n 0 (build n (λ c. c)) (start_rows n a) (beside_identity n a)
  unfolding of_bits of_fields odd
  keeps-first = record {
    kept = length-start n a;
    full = length-beside n a;
    within = λ c cn. subst (λ (x : ℕ). x < n) (sym (get_or-build 0 n c _ cn)) cn;
    left = first-left;
    right = λ i c il cn. first-right i c il cn ∙ ap (λ (x : ℕ). right_entry n 0 (start_rows n a) x i) (sym (get_or-build 0 n c _ cn));
    twice = λ i il. start-zero n a i (n + 0 + 1) il (omega arith) (omega arith) ∙ sym (first-zero i il);
    vacant = λ i _ il. subst Vacant (sym (first-zero i il)) (refl, refl, refl);
  }

-- ---- the right half

-- number z of it
abbrev pub right_number : ℕ → List ℕ → List Float → ℕ → Float
right_number n t u z = cell (2 * n + 2) u (z / n) (n + get_or t (z % n) 0)

-- row i of it, gathered from row i of the rows u, lent by its places, from its number n on
pub right-row : (n i b e z : ℕ) (t : List ℕ) (u ys : List Float) → z ≡ n → (b ≡ i * (2 * n + 2)) × (e ≡ i * (2 * n + 2) + (2 * n + 2)) → ((c : ℕ) → c < n → get_or t c 0 < n)
    → ys ≡ build z (λ c. at (take (length (take (e - b) (drop b u)) - n) (drop n (take (e - b) (drop b u)))) (get_or t c 0)) → ys ≡ build n (λ j. right_number n t u (i * n + j))
right-row n i b e z t u ys l q w y =
    let p : List Float = take (e - b) (drop b u) in
    y
    ∙ ap₂ (λ (z : ℕ) (x : List Float). build z (λ c. at x (get_or t c 0))) l (back-all n p)
    ∙ build-same n _ (λ j. right_number n t u (i * n + j))
    (λ c cn.
    get_or-drop n p (get_or t c 0) nan
    ∙ ap (λ (l : List Float). at l (n + get_or t c 0)) (lent-row u i (2 * n + 2) b e q)
    ∙ part_at u i (n + get_or t c 0) (2 * n + 2) (let k = w c cn in omega arith)
    ∙ sym (ap₂ (λ (r j : ℕ). cell (2 * n + 2) u r (n + get_or t j 0)) (row-of i c n cn) (column-of i c n cn)))

above_zero : (n z : ℕ) → z < n * n → 0 < n
above_zero zero z h = absurd (not-suc-le-zero h)
above_zero (suc n) z h = zero-lt-suc n

-- after the last step it is the matrix's
pub right_kept : (n : ℕ) (t : List ℕ) (u m : List Float) → Keeps n n t u m → kept_right n t u ≡ right_halves n m
unfolding kept_right right_halves right_entry
right_kept n t u m h =
    build-same (n * n) _ _
    (λ z l.
    let k : 0 < n = above_zero n z l in
    let i : z / n < n = (div-lt_iff_lt-mul k).1 l in
    let c : z % n < n = mod-lt z k in
    let e : z / n * (2 * n) + (n + z % n) ≡ z / n * (2 * n) + n + z % n = omega arith in
    yes _ (lt-ltb (get_or t (z % n) 0) n (h.within (z % n) c)) ∙ sym (h.right (z / n) (z % n) i c) ∙ ap (at m) e)

pub length-right : (n : ℕ) (l : List Float) → length (right_halves n l) ≡ n * n
unfolding right_halves
length-right n l = length-build (n * n) _
