-- A rotation row by row, and then the four entries where its rows and columns meet, is the rotation entry by entry. Assumes nothing.
use mathlib.Core.Path.{◌≡◌, refl, sym, ◌∙◌, ap, subst}
use mathlib.Core.Bool.{Bool, true, false, cond, ◌&&◌, ◌||◌}
use mathlib.Core.List.{List}
use Prim.Native.Nat.{ℕ, zero, suc, ◌+◌, ◌*◌, ◌<◌, ◌≤◌}
use native.Mathlib.Omega.{arith}
use lib.Dec.{eqb, ltb}
use lib.ListN.{length, set, length-set}
use borrow.Author.Tests.{eqb-true, eq-eqb, lt-ltb, le-ltb}
use Rattle.lists.specs.Fold.{fold}
use lib.Ieee.{Float, nan, inf, fin, neg}
use Rattle.numbers.specs.Number.{abs, zero_f}
use Rattle.numbers.proofs.Leaves.{clash}
use Rattle.complex.specs.declared.Complex.{Complex}
use Rattle.complex.specs.Arithmetic.{conjugate, magnitude}
use Rattle.entries.specs.Entries.{entry_at}
use Rattle.entries.proofs.Laying.{below_next}
use Rattle.entries.proofs.Matrices.{at_set, at-matrix, is-matrix}
use Rattle.magnitudes.proofs.Keeping.{SameOutside, Even}
use Rattle.turns.specs.declared.Turn.{Turn}
use Rattle.turns.specs.Rotation.{real, turned_p, turned_q, columns_at, columns_turned, turned_at, turned}
use Rattle.turns.specs.Steps.{row_turned, row_rotated, crossed}

-- ---- columns, row by row

module _ (r n : ℕ) (t : Turn) (hp : t.p < n) (hq : t.q < n) (a : List Complex) (long : length a ≡ r * n) where
  length-rows : (k : ℕ) → length (fold k (row_turned n t) a) ≡ r * n
  unfolding fold row_turned
  length-rows zero = long
  length-rows (suc k) = simp length-set (length-rows k)

  -- what n rows have after k of them are turned
  abbrev Turned : ℕ → List Complex → Type 0
  Turned k e = (i j : ℕ) → i < r → j < n → entry_at n e i j ≡ cond (ltb i k) (columns_at n t a i j) (entry_at n a i j)

  turned_more : (k : ℕ) (e : List Complex) → length e ≡ r * n → k < r → Turned k e → Turned (suc k) (row_turned n t k e)
  unfolding row_turned columns_at
  turned_more k e len u h i j v l =
      at_set r n (set e (k * n + t.q) y) k t.p i j x (cond (eqb i k && eqb j t.q) y (entry_at n e i j)) (simp length-set len) u hp l
      (at_set r n e k t.q i j y (entry_at n e i j) len u hq l refl)
      ∙ go (eqb i k) refl
    where
      x : Complex
      x = turned_p t (entry_at n e k t.p) (entry_at n e k t.q)

      y : Complex
      y = turned_q t (entry_at n e k t.p) (entry_at n e k t.q)

      same : (j : ℕ) → j < n → entry_at n e k j ≡ entry_at n a k j
      same j l = h k j u l ∙ rw (le-ltb k k (omega arith))

      go : (b : Bool) → eqb i k ≡ b
          → cond (eqb i k && eqb j t.p) (turned_p t (entry_at n e k t.p) (entry_at n e k t.q))
          (cond (eqb i k && eqb j t.q) (turned_q t (entry_at n e k t.p) (entry_at n e k t.q)) (entry_at n e i j))
          ≡ cond (ltb i (suc k)) (columns_at n t a i j) (entry_at n a i j)
      go true b =
          let m : i ≡ k = eqb-true i k b in
          rw (b, lt-ltb i (suc k) (omega arith), m, same t.p hp, same t.q hq, same j l)
      go false b = rw (b, below_next i k b) (h i j v l)

  rows-turned : (k : ℕ) → k ≤ r → Turned k (fold k (row_turned n t) a)
  unfolding fold
  rows-turned zero u = λ i j h l. rw (le-ltb i 0 (omega arith))
  rows-turned (suc k) u = turned_more k (fold k (row_turned n t) a) (length-rows k) u (rows-turned k (omega arith))

  pub columns-whole : (e : List Complex) → e ≡ fold r (row_turned n t) a → e ≡ columns_turned r n t a
  unfolding columns_turned
  columns-whole e h = h ∙ is-matrix r n (fold r (row_turned n t) a) (columns_at n t a) (length-rows r) (λ i j u l. rows-turned r (omega arith) i j u l ∙ rw (lt-ltb i r u))

-- ---- rows and columns of the matrix, row by row

module _ (n : ℕ) (t : Turn) (hp : t.p < n) (hq : t.q < n) (a : List Complex) (long : length a ≡ n * n) where
  length-step : (k : ℕ) (e : List Complex) → length (row_rotated n t k e) ≡ length e
  unfolding row_rotated row_turned
  length-step k e = simp length-set refl

  length-rotated : (k : ℕ) → length (fold k (row_rotated n t) a) ≡ n * n
  unfolding fold
  length-rotated zero = long
  length-rotated (suc k) = length-step k (fold k (row_rotated n t) a) ∙ length-rotated k

  -- what entry (i, j) is after k rows, unless it is one of the four where rows and columns meet
  wanted : ℕ → ℕ → ℕ → Complex
  wanted k i j =
      cond (eqb i t.p) (cond (ltb j k) (conjugate (columns_at n t a j t.p)) (entry_at n a i j))
      (cond (eqb i t.q) (cond (ltb j k) (conjugate (columns_at n t a j t.q)) (entry_at n a i j)) (cond (ltb i k) (columns_at n t a i j) (entry_at n a i j)))

  -- entry (i, j) is one of the four
  abbrev met : ℕ → ℕ → Bool
  met i j = (eqb i t.p || eqb i t.q) && (eqb j t.p || eqb j t.q)

  abbrev Rotated : ℕ → List Complex → Type 0
  Rotated k e = (i j : ℕ) → i < n → j < n → met i j ≡ false → entry_at n e i j ≡ wanted k i j

  module _ (k : ℕ) (e : List Complex) (len : length e ≡ n * n) (u : k < n) (h : Rotated k e) where
    abbrev at_p : Complex
    at_p = turned_p t (entry_at n e k t.p) (entry_at n e k t.q)

    abbrev at_q : Complex
    at_q = turned_q t (entry_at n e k t.p) (entry_at n e k t.q)

    -- a row that is neither p nor q was not touched
    untouched : (j : ℕ) → j < n → eqb k t.p ≡ false → eqb k t.q ≡ false → entry_at n e k j ≡ entry_at n a k j
    unfolding wanted
    untouched j l f g = h k j u l (rw (f, g) refl) ∙ rw (f, g, le-ltb k k (omega arith)) refl

    stored : (i j : ℕ) → i < n → j < n → entry_at n (row_rotated n t k e) i j
        ≡ cond (eqb i t.p && eqb j k) (conjugate at_p) (cond (eqb i t.q && eqb j k) (conjugate at_q) (cond (eqb i k && eqb j t.p) at_p (cond (eqb i k && eqb j t.q) at_q (entry_at n e i j))))
    unfolding row_rotated row_turned
    stored i j v l =
        at_set n n (set (set (set e (k * n + t.q) at_q) (k * n + t.p) at_p) (t.q * n + k) (conjugate at_q)) t.p k i j (conjugate at_p) _ (simp length-set len) hp u l
        (at_set n n (set (set e (k * n + t.q) at_q) (k * n + t.p) at_p) t.q k i j (conjugate at_q) _ (simp length-set len) hq u l
        (at_set n n (set e (k * n + t.q) at_q) k t.p i j at_p _ (simp length-set len) u hp l (at_set n n e k t.q i j at_q _ len u hq l refl)))

    -- what columns p and q become
    p-column : eqb k t.p ≡ false → eqb k t.q ≡ false → at_p ≡ columns_at n t a k t.p
    unfolding columns_at
    p-column f g = rw (untouched t.p hp f g, untouched t.q hq f g, eq-eqb t.p t.p refl) refl

    q-column : eqb t.q t.p ≡ false → eqb k t.p ≡ false → eqb k t.q ≡ false → at_q ≡ columns_at n t a k t.q
    unfolding columns_at
    q-column d f g = rw (untouched t.p hp f g, untouched t.q hq f g, d, eq-eqb t.q t.q refl) refl

    skip : (b : Bool) (x y : Complex) → cond (b && false) x y ≡ y
    skip true x y = refl
    skip false x y = refl

    -- in row p or row q: entry j of the row, which row k of the column gives it
    crossed-row : (i j : ℕ) (x y : Complex) → eqb j t.p ≡ false → eqb j t.q ≡ false → (b : Bool) → eqb j k ≡ b → (eqb j k ≡ true → x ≡ y) → entry_at n e i j ≡ cond (ltb j k) y (entry_at n a i j)
        → cond (eqb j k) x (entry_at n e i j) ≡ cond (ltb j (suc k)) y (entry_at n a i j)
    crossed-row i j x y f g true b same was = rw (b, lt-ltb j (suc k) (omega (arith, eqb-true j k b))) (same b)
    crossed-row i j x y f g false b same was = rw (b, below_next j k b) was

    beside : (c y : Bool) (x z r : Complex) → cond c x (cond (y && c) z r) ≡ cond c x r
    beside true y x z r = refl
    beside false y x z r = skip y z r

    -- in another row
    own-row : (i j : ℕ) → i < n → j < n → eqb i t.p ≡ false → eqb i t.q ≡ false → met i j ≡ false → (b : Bool) → eqb i k ≡ b
        → cond (eqb i k && eqb j t.p) at_p (cond (eqb i k && eqb j t.q) at_q (entry_at n e i j)) ≡ cond (ltb i (suc k)) (columns_at n t a i j) (entry_at n a i j)
    unfolding columns_at wanted
    own-row i j v l f g out true b =
        let s : i ≡ k = eqb-true i k b in
        let f' = subst (λ (m : ℕ). eqb m t.p ≡ false) s f in
        let g' = subst (λ (m : ℕ). eqb m t.q ≡ false) s g in
        rw (b, lt-ltb i (suc k) (omega (arith, s)))
        (subst (λ (m : ℕ). cond (eqb j t.p) at_p (cond (eqb j t.q) at_q (entry_at n e m j)) ≡ columns_at n t a m j) (sym s) (rw (untouched t.p hp f' g', untouched t.q hq f' g', untouched j l f' g') refl))
    own-row i j v l f g out false b = rw (b, below_next i k b) (h i j v l out ∙ rw (f, g) refl)

    rotated_more : Rotated (suc k) (row_rotated n t k e)
    unfolding wanted
    rotated_more i j v l out = stored i j v l ∙ go (eqb i t.p) (eqb i t.q) (eqb j t.p) (eqb j t.q) refl refl refl refl
      where
        go : (x y z w : Bool) → eqb i t.p ≡ x → eqb i t.q ≡ y → eqb j t.p ≡ z → eqb j t.q ≡ w
            → cond (eqb i t.p && eqb j k) (conjugate at_p) (cond (eqb i t.q && eqb j k) (conjugate at_q) (cond (eqb i k && eqb j t.p) at_p (cond (eqb i k && eqb j t.q) at_q (entry_at n e i j))))
            ≡ cond (eqb i t.p) (cond (ltb j (suc k)) (conjugate (columns_at n t a j t.p)) (entry_at n a i j))
            (cond (eqb i t.q) (cond (ltb j (suc k)) (conjugate (columns_at n t a j t.q)) (entry_at n a i j)) (cond (ltb i (suc k)) (columns_at n t a i j) (entry_at n a i j)))
        go true y true w px py pz pw = clash (sym (rw (px, pz) at out))
        go true y false true px py pz pw = clash (sym (rw (px, pz, pw) at out))
        go true y false false px py pz pw =
            rw (px, pz, pw)
            (beside (eqb j k) (eqb i t.q) (conjugate at_p) (conjugate at_q) _
            ∙ ap (cond (eqb j k) (conjugate at_p)) (skip (eqb i k) at_p _ ∙ skip (eqb i k) at_q (entry_at n e i j))
            ∙ crossed-row i j (conjugate at_p) (conjugate (columns_at n t a j t.p)) pz pw (eqb j k) refl
            (λ s.
            let f : j ≡ k = eqb-true j k s in
            ap conjugate (p-column (subst (λ (m : ℕ). eqb m t.p ≡ false) f pz) (subst (λ (m : ℕ). eqb m t.q ≡ false) f pw) ∙ ap (λ (m : ℕ). columns_at n t a m t.p) (sym f)))
            (h i j v l out ∙ rw px refl))
        go false true true w px py pz pw = clash (sym (rw (px, py, pz) at out))
        go false true false true px py pz pw = clash (sym (rw (px, py, pz, pw) at out))
        go false true false false px py pz pw =
            rw (px, py, pz, pw)
            (ap (cond (eqb j k) (conjugate at_q)) (skip (eqb i k) at_p _ ∙ skip (eqb i k) at_q (entry_at n e i j))
            ∙ crossed-row i j (conjugate at_q) (conjugate (columns_at n t a j t.q)) pz pw (eqb j k) refl
            (λ s.
            let f : j ≡ k = eqb-true j k s in
            ap conjugate
            (q-column (subst (λ (m : ℕ). eqb m t.p ≡ false) (eqb-true i t.q py) px) (subst (λ (m : ℕ). eqb m t.p ≡ false) f pz) (subst (λ (m : ℕ). eqb m t.q ≡ false) f pw)
            ∙ ap (λ (m : ℕ). columns_at n t a m t.q) (sym f)))
            (h i j v l out ∙ rw (px, py) refl))
        go false false z w px py pz pw = rw (px, py) (own-row i j v l px py out (eqb i k) refl)

  rotated : (k : ℕ) → k ≤ n → Rotated k (fold k (row_rotated n t) a)
  unfolding fold wanted
  rotated zero u = λ i j v l out. rw (le-ltb j 0 (omega arith), le-ltb i 0 (omega arith)) (same (eqb i t.p) (eqb i t.q) (entry_at n a i j))
    where
      same : (x y : Bool) (z : Complex) → z ≡ cond x z (cond y z z)
      same true y z = refl
      same false true z = refl
      same false false z = refl
  rotated (suc k) u = rotated_more k (fold k (row_rotated n t) a) (length-rotated k) u (rotated k (omega arith))

-- ---- all of it

-- An entry by the tests of its row and its column: the four that are stored, and one of row p, of row q or of another row. m is what stands there before the four.
meet : (x y z w : Bool) (pp qq o m jp jq ij : Complex) → ((x || y) && (z || w) ≡ false → m ≡ cond x jp (cond y jq ij))
    → cond (x && z) pp (cond (x && w) o (cond (y && z) o (cond (y && w) qq m))) ≡ cond x (cond z pp (cond w o jp)) (cond y (cond z o (cond w qq jq)) ij)
meet true y true w pp qq o m jp jq ij h = refl
meet true y false true pp qq o m jp jq ij h = refl
meet true true false false pp qq o m jp jq ij h = h refl
meet true false false false pp qq o m jp jq ij h = h refl
meet false true true w pp qq o m jp jq ij h = refl
meet false true false true pp qq o m jp jq ij h = refl
meet false true false false pp qq o m jp jq ij h = h refl
meet false false z w pp qq o m jp jq ij h = h refl

module _ (n : ℕ) (t : Turn) (hp : t.p < n) (hq : t.q < n) (a : List Complex) (long : length a ≡ n * n) where
  half : List Complex
  half = fold n (row_rotated n t) a

  length-half : length half ≡ n * n
  unfolding half
  length-half = length-rotated n t hp hq a long n

  at-half : (i j : ℕ) → i < n → j < n → met n t hp hq a long i j ≡ false → entry_at n half i j ≡ cond (eqb i t.p) (conjugate (columns_at n t a j t.p)) (cond (eqb i t.q) (conjugate (columns_at n t a j t.q)) (columns_at n t a i j))
  unfolding half wanted
  at-half i j u v out = rotated n t hp hq a long n (omega arith) i j u v out ∙ rw (lt-ltb j n v, lt-ltb i n u) refl

  -- one, two and three of the four are stored
  abbrev one : List Complex
  one = set half (t.q * n + t.q) (real t.qq)

  abbrev two : List Complex
  two = set one (t.q * n + t.p) (real zero_f)

  abbrev three : List Complex
  three = set two (t.p * n + t.q) (real zero_f)

  pub rotate-whole : (e : List Complex) → e ≡ fold n (row_rotated n t) a → crossed n t e ≡ turned n t a
  unfolding crossed turned turned_at half
  rotate-whole e h =
      ap (crossed n t) h
      ∙ is-matrix n n _ (turned_at n t a) (simp length-set length-half)
      (λ i j u v.
      at_set n n three t.p t.p i j (real t.pp) _ (simp length-set length-half) hp hp v
      (at_set n n two t.p t.q i j (real zero_f) _ (simp length-set length-half) hp hq v
      (at_set n n one t.q t.p i j (real zero_f) _ (simp length-set length-half) hq hp v
      (at_set n n half t.q t.q i j (real t.qq) _ length-half hq hq v refl)))
      ∙ meet (eqb i t.p) (eqb i t.q) (eqb j t.p) (eqb j t.q) (real t.pp) (real t.qq) (real zero_f) (entry_at n half i j) (conjugate (columns_at n t a j t.p)) (conjugate (columns_at n t a j t.q)) (columns_at n t a i j) (at-half i j u v))

-- entries outside rows and columns p and q stay
pub same-outside : (n : ℕ) (t : Turn) (a : List Complex) → SameOutside n t.p t.q a (turned n t a)
unfolding turned turned_at columns_at
same-outside n t a i j u v ip iq jp jq = at-matrix n n i j (turned_at n t a) u v ∙ rw (ip, iq, jp, jq)

-- the conjugate has the same magnitude
abs-neg : (x : Float) → abs (neg x) ≡ abs x
unfolding abs neg
abs-neg nan = refl
abs-neg (inf s) = refl
abs-neg (fin s m e) = refl

magnitude-conjugate : (z : Complex) → magnitude (conjugate z) ≡ magnitude z
unfolding magnitude conjugate
magnitude-conjugate z = rw (abs-neg z.im) refl

either_way : (b : Bool) (x z : Complex) → magnitude (cond b x (conjugate z)) ≡ magnitude (cond b x z)
either_way true x z = refl
either_way false x z = magnitude-conjugate z

-- rows p and q have the magnitudes of columns p and q
pub even_p : (n : ℕ) (t : Turn) (a : List Complex) → t.p < n → Even n (turned n t a) t.p
unfolding turned turned_at columns_at
even_p n t a hp i h e =
    rw (at-matrix n n t.p i (turned_at n t a) hp h, at-matrix n n i t.p (turned_at n t a) h hp, eq-eqb t.p t.p refl, e)
    (either_way (eqb i t.q) (real zero_f) (turned_p t (entry_at n a i t.p) (entry_at n a i t.q)))

pub even_q : (n : ℕ) (t : Turn) (a : List Complex) → t.p < n → t.q < n → Even n (turned n t a) t.q
unfolding turned turned_at columns_at
even_q n t a hp hq = go (eqb t.q t.p) refl
  where
    go : (b : Bool) → eqb t.q t.p ≡ b → Even n (turned n t a) t.q
    go true f i h e = subst (Even n (turned n t a)) (sym (eqb-true t.q t.p f)) (even_p n t a hp) i h e
    go false f i h e =
        rw (at-matrix n n t.q i (turned_at n t a) hq h, at-matrix n n i t.q (turned_at n t a) h hq, f, eq-eqb t.q t.q refl, e)
        (either_way (eqb i t.p) (real zero_f) (turned_q t (entry_at n a i t.p) (entry_at n a i t.q)))
