-- Lists made entry by entry, and the loops that fill a list from the front. Assumes nothing.
use mathlib.Core.Path.{◌≡◌, refl, sym, ◌∙◌, ap, ap₂}
use mathlib.Core.List.{List, [], ◌∷◌, ◌++◌, append_assoc, append-nil}
use Prim.Native.Nat.{ℕ, zero, suc, ◌+◌, ◌≤◌, ◌<◌}
use native.Mathlib.Nat.{add-zero, zero-add, add-suc, suc-add, le_refl, le_of_suc-le-suc, not-suc-le-zero}
use native.Mathlib.Omega.{arith}
use native.Mathlib.Numerals.{add-one}
use lib.Dec.{eqb}
use borrow.Author.Tests.{eqb-true, eqb-false}
use mathlib.Core.Bool.{Bool, true, false}
use lib.ListN.{length, take, drop, get_or, set, length-append, length-take, length-drop, length-set, drop_of_length-le}
use lib.Seq.{drop-cons, set_at, take_at, get_or_at, get_or-take, get_or-drop, get_or-set_same, get_or-set_other, ext_get_or}
use Rattle.lists.specs.Build.{from, build, over}
use Rattle.lists.specs.Part.{part}

module _ {A : Type 0} where
  length_from : (i k : ℕ) (f : ℕ → A) → length (from i k f) ≡ k
  unfolding from
  length_from i zero f = refl
  length_from i (suc k) f = ap suc (length_from (suc i) k f)

  from_more : (i k : ℕ) (f : ℕ → A) → from i (suc k) f ≡ from i k f ++ (f (i + k) ∷ [])
  unfolding from
  from_more i zero f = rw add-zero
  from_more i (suc k) f = ap (λ (l : List A). f i ∷ l) (from_more (suc i) k f ∙ rw (suc-add, add-suc))

  get_or-from : (z : A) (i k j : ℕ) (f : ℕ → A) → j < k → get_or (from i k f) j z ≡ f (i + j)
  unfolding from
  get_or-from z i zero j f h = absurd (not-suc-le-zero h)
  get_or-from z i (suc k) zero f h = rw add-zero
  get_or-from z i (suc k) (suc j) f h = get_or-from z (suc i) k j f (le_of_suc-le-suc h) ∙ rw (suc-add, add-suc)

  pub length-build : (n : ℕ) (f : ℕ → A) → length (build n f) ≡ n
  unfolding build
  length-build n f = length_from 0 n f

  pub build-none : (f : ℕ → A) → build 0 f ≡ []
  unfolding build from
  build-none f = refl

  pub build-suc : (n : ℕ) (f : ℕ → A) → build (n + 1) f ≡ build n f ++ (f n ∷ [])
  unfolding build
  build-suc n f = rw add-one (from_more 0 n f ∙ rw zero-add)

  -- entry j of a built list
  pub get_or-build : (z : A) (n j : ℕ) (f : ℕ → A) → j < n → get_or (build n f) j z ≡ f j
  unfolding build
  get_or-build z n j f h = get_or-from z 0 n j f h ∙ rw zero-add

  -- two built lists with the same entries
  pub build-same : (n : ℕ) (f g : ℕ → A) → ((j : ℕ) → j < n → f j ≡ g j) → build n f ≡ build n g
  unfolding build from
  build-same n f g h = go 0 n (λ j _ l. h j (omega arith))
    where
      go : (i k : ℕ) → ((j : ℕ) → i ≤ j → j < i + k → f j ≡ g j) → from i k f ≡ from i k g
      go i zero h = refl
      go i (suc k) h = ap₂ (λ (x : A) (l : List A). x ∷ l) (h i (omega arith) (omega arith)) (go (suc i) k (λ j a b. h j (omega arith) (omega arith)))

  -- the front of a list that starts with a built one
  pub take-build : (n : ℕ) (f : ℕ → A) (r : List A) → take n (build n f ++ r) ≡ build n f
  take-build n f r = take_at (build n f) r n (length-build n f)

  -- a list is built of its entries, and so is a part of it
  pub build-part : (z : A) (a n : ℕ) (l : List A) → a + n ≤ length l → build n (λ i. get_or l (a + i) z) ≡ part a n l
  build-part z a n l h =
      let k : length (take n (drop a l)) ≡ n = simp (length-take, length-drop) (omega arith) in
      ext_get_or z (build n (λ i. get_or l (a + i) z)) (take n (drop a l)) (length-build n _ ∙ sym k)
      (λ i p.
      let q : i < n = omega (arith, length-build n (λ i. get_or l (a + i) z)) in
      get_or-build z n i _ q ∙ sym (get_or-take n (drop a l) i z q ∙ get_or-drop a l i z))

  -- the front of a list is built of its entries
  pub build-front : (z : A) (n : ℕ) (l : List A) → n ≤ length l → build n (λ i. get_or l i z) ≡ take n l
  build-front z n l h =
      build-same n _ (λ i. get_or l (0 + i) z) (λ j _. ap (λ (i : ℕ). get_or l i z) (sym (zero-add j))) ∙ build-part z 0 n l (omega arith)

  pub build-all : (z : A) (l : List A) → build (length l) (λ i. get_or l i z) ≡ l
  build-all z l =
      ext_get_or z (build (length l) (λ i. get_or l i z)) l (length-build (length l) (λ i. get_or l i z))
      (λ i h. get_or-build z (length l) i (λ i. get_or l i z) (omega (arith, length-build (length l) (λ i. get_or l i z))))

  -- one entry of a built list is written over
  pub set-build : (z : A) (n p : ℕ) (f g : ℕ → A) (v : A) → p < n → v ≡ g p → ((j : ℕ) → j < n → (j ≡ p → ⊥) → f j ≡ g j) → set (build n f) p v ≡ build n g
  set-build z n p f g v h e same =
      ext_get_or z (set (build n f) p v) (build n g) (simp (length-set, length-build))
      (λ j l.
      let k : j < n = omega (arith, length-build n f, length-set (build n f) p v) in
      let b : p < length (build n f) = omega (arith, length-build n f) in
      go j k b (eqb j p) refl ∙ sym (get_or-build z n j g k))
    where
      go : (j : ℕ) → j < n → p < length (build n f) → (b : Bool) → eqb j p ≡ b → get_or (set (build n f) p v) j z ≡ g j
      go j k b true q =
          let m : j ≡ p = eqb-true j p q in
          rw m (get_or-set_same (build n f) p v z b ∙ e)
      go j k b false q = get_or-set_other (build n f) p j v z (eqb-false j p q) ∙ get_or-build z n j f k ∙ same j k (eqb-false j p q)

  -- ---- A loop that fills d from the front with f 0, f 1, ..: what stands in it after i turns
  abbrev pub Filled : (ℕ → A) → List A → ℕ → List A → Type 0
  Filled f d i out = out ≡ build i f ++ drop i d

  -- one more entry is stored in its place
  build-more : (n : ℕ) (f : ℕ → A) (d : List A) → n < length d → set (build n f ++ drop n d) n (f n) ≡ build (n + 1) f ++ drop (n + 1) d
  build-more n f d h =
      ap (λ (l : List A). set (build n f ++ l) n (f n)) (drop-cons d n (f n) h)
      ∙ set_at (build n f) (get_or d n (f n)) (drop (suc n) d) (f n) n (length-build n f)
      ∙ rw (build-suc, append_assoc, add-one)

  pub fill_none : (f : ℕ → A) (d : List A) → Filled f d 0 d
  fill_none f d = rw build-none

  pub fill_more : (f : ℕ → A) (d : List A) (i : ℕ) (out : List A) (v : A) → i < length d → Filled f d i out → v ≡ f i → Filled f d (i + 1) (set out i v)
  fill_more f d i out v h e g = ap₂ (λ (l : List A) (w : A). set l i w) e g ∙ build-more i f d h

  pub fill_end : (f : ℕ → A) (d : List A) (i n : ℕ) (out : List A) → i ≡ n → Filled f d i out → Filled f d n out
  fill_end f d i n out h e = rw (← h) e

  -- all of d is filled
  pub fill-all : (f : ℕ → A) (d : List A) (i : ℕ) (out : List A) → i ≡ length d → Filled f d i out → out ≡ build (length d) f
  fill-all f d i out h e = e ∙ rw (h, drop_of_length-le d (le_refl (length d)), append-nil)

  -- a loop over the first n entries of d, which were lent: all of them are filled, and back in d
  pub fill-front : (f : ℕ → A) (d : List A) (n i : ℕ) (items : List A) → n ≤ length d → i ≡ length (take n d) → Filled f (take n d) i items → items ++ drop n d ≡ build n f ++ drop n d
  fill-front f d n i items h k e =
      let l : length (take n d) ≡ n = simp length-take (omega arith) in
      ap (λ (x : List A). x ++ drop n d) (fill-all f (take n d) i items k e ∙ ap (λ (m : ℕ). build m f) l)

  pub length-filled : (f : ℕ → A) (d : List A) (i : ℕ) (out : List A) → i ≤ length d → Filled f d i out → length out ≡ length d
  length-filled f d i out h e = ap length e ∙ simp (length-append, length-build, length-drop) (omega arith)

  -- what the loop reads at i is what d had there
  pub fill-next : (z : A) (f : ℕ → A) (d : List A) (i : ℕ) (out : List A) → i < length d → Filled f d i out → get_or out i z ≡ get_or d i z
  fill-next z f d i out h e =
      ap (λ (l : List A). get_or l i z) (e ∙ ap (λ (l : List A). build i f ++ l) (drop-cons d i z h))
      ∙ get_or_at (build i f) (get_or d i z) (drop (suc i) d) z i (length-build i f)

  -- ---- A loop that puts each entry of d through g, in its place
  abbrev pub mapped : A → (ℕ → A → A) → List A → ℕ → A
  mapped z g d j = g j (get_or d j z)

  pub map_more : (z : A) (g : ℕ → A → A) (d : List A) (i : ℕ) (out : List A) (v : A) → i < length d → Filled (mapped z g d) d i out → v ≡ g i (get_or out i z)
      → Filled (mapped z g d) d (i + 1) (set out i v)
  map_more z g d i out v h e k = fill_more (mapped z g d) d i out v h e (k ∙ ap (g i) (fill-next z (mapped z g d) d i out h e))

  -- ---- A loop that copies s, from its entry a on, over the first n entries of d; or s over all of d
  pub copy-end : (z : A) (a n i : ℕ) (s d out : List A) → a + n ≤ length s → i ≡ n → Filled (λ j. get_or s (a + j) z) d i out → out ≡ part a n s ++ drop n d
  copy-end z a n i s d out h k e = fill_end _ d i n out k e ∙ ap (λ (l : List A). l ++ drop n d) (build-part z a n s h)

  pub copy-all : (z : A) (i : ℕ) (s d out : List A) → length d ≤ length s → i ≡ length d → Filled (λ j. get_or s j z) d i out → out ≡ take (length d) s
  copy-all z i s d out h k e = fill-all _ d i out k e ∙ build-front z (length d) s h

  -- a filled front, as `over` says it
  pub over-build : (n : ℕ) (f : ℕ → A) (d : List A) → over (build n f) d ≡ build n f ++ drop n d
  over-build n f d = rw length-build
