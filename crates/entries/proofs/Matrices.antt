-- Matrices entry by entry: one that is built, one entry that is stored, and two that are equal. Assumes nothing.
use mathlib.Core.Path.{◌≡◌, refl, sym, ◌∙◌, ap, subst}
use mathlib.Core.Bool.{Bool, true, false, cond, ◌&&◌}
use mathlib.Core.List.{List}
use Prim.Native.Nat.{ℕ, zero, suc, ◌+◌, ◌*◌, ◌/◌, ◌%◌, ◌<◌}
use native.Mathlib.Nat.{div-add-mod', div-lt_iff_lt-mul, mod-lt, mul-zero}
use native.Mathlib.Omega.{arith}
use lib.Dec.{eqb}
use lib.ListN.{length, get_or, set}
use lib.Seq.{ext_get_or, get_or-set_same, get_or-set_other}
use borrow.Author.Tests.{eqb-true, eq-eqb}
use Rattle.booleans.proofs.Joined.{clash}
use Rattle.lists.proofs.Filling.{length-build, get_or-build}
use Rattle.lists.proofs.Parts.{entry-fits, row-of, column-of}
use Rattle.complex.specs.declared.Complex.{Complex}
use Rattle.entries.specs.Entries.{nowhere, entry_at, matrix}

pub length-matrix : (r n : ℕ) (f : ℕ → ℕ → Complex) → length (matrix r n f) ≡ r * n
unfolding matrix
length-matrix r n f = length-build (r * n) _

pub at-matrix : (r n i j : ℕ) (f : ℕ → ℕ → Complex) → i < r → j < n → entry_at n (matrix r n f) i j ≡ f i j
unfolding matrix
at-matrix r n i j f h l = get_or-build nowhere (r * n) (i * n + j) (λ k. f (k / n) (k % n)) (entry-fits i j r n h l) ∙ rw (row-of, column-of)

-- a list with the entries of a matrix is that matrix
pub is-matrix : (r n : ℕ) (a : List Complex) (f : ℕ → ℕ → Complex) → length a ≡ r * n → ((i j : ℕ) → i < r → j < n → entry_at n a i j ≡ f i j) → a ≡ matrix r n f
is-matrix r zero a f e h = ext_get_or nowhere a (matrix r 0 f) (e ∙ sym (length-matrix r 0 f)) (λ k l. absurd (omega (arith, mul-zero r)))
is-matrix r (suc n) a f e h =
    ext_get_or nowhere a (matrix r (suc n) f) (e ∙ sym (length-matrix r (suc n) f))
    (λ k l.
    let m : k % suc n < suc n = mod-lt k (omega arith) in
    let i : k / suc n < r = (div-lt_iff_lt-mul {k = suc n} (omega arith)).1 (omega arith) in
    let q : k / suc n * suc n + k % suc n ≡ k = div-add-mod' k (suc n) in
    subst (λ (t : ℕ). get_or a t nowhere ≡ get_or (matrix r (suc n) f) t nowhere) q (h (k / suc n) (k % suc n) i m ∙ sym (at-matrix r (suc n) (k / suc n) (k % suc n) f i m)))

-- places of different rows or columns differ
pub other_place : (n i j p q : ℕ) → j < n → q < n → (eqb i p && eqb j q) ≡ false → i * n + j ≡ p * n + q → ⊥
other_place n i j p q l m e h =
    let s : i ≡ p = sym (row-of i j n l) ∙ ap (λ (k : ℕ). k / n) h ∙ row-of p q n m in
    let t : j ≡ q = sym (column-of i j n l) ∙ ap (λ (k : ℕ). k % n) h ∙ column-of p q n m in
    clash true refl (rw (eq-eqb i p s, eq-eqb j q t) at e)

-- entry (i, j), which was m, after v was stored as entry (p, q)
pub at_set : (r n : ℕ) (a : List Complex) (p q i j : ℕ) (v m : Complex) → length a ≡ r * n → p < r → q < n → j < n → entry_at n a i j ≡ m → entry_at n (set a (p * n + q) v) i j ≡ cond (eqb i p && eqb j q) v m
at_set r n a p q i j v m e h l k was = go (eqb i p) (eqb j q) refl refl
  where
    go : (x y : Bool) → eqb i p ≡ x → eqb j q ≡ y → entry_at n (set a (p * n + q) v) i j ≡ cond (x && y) v m
    go true true s t =
        let s' : i ≡ p = eqb-true i p s in
        let t' : j ≡ q = eqb-true j q t in
        rw (s', t') (get_or-set_same a (p * n + q) v nowhere (omega (arith, entry-fits p q r n h l)))
    go true false s t = get_or-set_other a (p * n + q) (i * n + j) v nowhere (other_place n i j p q k l (rw (s, t))) ∙ was
    go false y s t = get_or-set_other a (p * n + q) (i * n + j) v nowhere (other_place n i j p q k l (rw s)) ∙ was
