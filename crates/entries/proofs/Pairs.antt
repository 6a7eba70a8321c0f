-- Entries as pairs of numbers: how many there are, one that is read, one that is stored. Assumes nothing.
use mathlib.Core.Path.{◌≡◌, refl, sym, ◌∙◌, ap}
use mathlib.Core.List.{List, [], ◌∷◌}
use Prim.Native.Nat.{ℕ, zero, suc, ◌+◌, ◌*◌, ◌<◌, ◌≤◌}
use native.Mathlib.Nat.{mul-suc}
use native.Mathlib.Numerals.{add-one}
use native.Mathlib.Omega.{arith}
use lib.ListN.{length, get_or, set}
use lib.Ieee.{Float, nan}
use Rattle.std.specs.Simd.{first_chunks}
use Rattle.complex.specs.declared.Complex.{Complex}
use Rattle.entries.specs.Entries.{entries, parts_of, nowhere}

twice : ℕ → ℕ
twice zero = zero
twice (suc k) = suc (suc (twice k))

twice-is : (k : ℕ) → 2 * k ≡ twice k
unfolding twice
twice-is zero = refl
twice-is (suc k) = rw mul-suc (let h = twice-is k in omega arith)

pub length-entries : (m : ℕ) (l : List Float) → length l ≡ 2 * m → length (entries l) ≡ m
unfolding entries twice
length-entries m l h = go m l (h ∙ twice-is m)
  where
    go : (m : ℕ) (l : List Float) → length l ≡ twice m → length (entries l) ≡ m
    go zero [] h = refl
    go zero (x ∷ l) h = absurd (omega arith)
    go (suc m) [] h = absurd (omega arith)
    go (suc m) (x ∷ []) h = absurd (omega arith)
    go (suc m) (x ∷ y ∷ l) h = ap suc (go m l (omega arith))

-- entry k is numbers 2 k and 2 k + 1
pub get-entry : (l : List Float) (k : ℕ) → 2 * k + 1 < length l → get_or (entries l) k nowhere ≡ record { re = get_or l (2 * k) nan; im = get_or l (2 * k + 1) nan }
unfolding entries twice
get-entry l k h = rw (add-one, twice-is) (go l k (omega (arith, twice-is k)))
  where
    go : (l : List Float) (k : ℕ) → suc (twice k) < length l → get_or (entries l) k nowhere ≡ record { re = get_or l (twice k) nan; im = get_or l (suc (twice k)) nan }
    go [] k h = absurd (omega arith)
    go (x ∷ []) zero h = absurd (omega arith)
    go (x ∷ []) (suc k) h = absurd (omega arith)
    go (x ∷ y ∷ l) zero h = refl
    go (x ∷ y ∷ l) (suc k) h = go l k (omega arith)

-- and chunk k of two
pub of-chunk : (m : ℕ) (l : List Float) (k : ℕ) → k < m → 2 * m ≤ length l
    → record { re = get_or (get_or (first_chunks 2 m l) k []) 0 nan; im = get_or (get_or (first_chunks 2 m l) k []) 1 nan } ≡ get_or (entries l) k nowhere
unfolding entries
of-chunk zero l k h g = absurd (omega arith)
of-chunk (suc m) [] k h g = absurd (omega arith)
of-chunk (suc m) (x ∷ []) k h g = absurd (omega arith)
of-chunk (suc m) (x ∷ y ∷ l) zero h g = refl
of-chunk (suc m) (x ∷ y ∷ l) (suc k) h g = of-chunk m l k (omega arith) (omega arith)

pub set-entry : (l : List Float) (k : ℕ) (z : Complex) → 2 * k + 1 < length l → entries (set (set l (2 * k) z.re) (2 * k + 1) z.im) ≡ set (entries l) k z
unfolding entries twice
set-entry l k z h = rw (add-one, twice-is) (go l k (omega (arith, twice-is k)))
  where
    go : (l : List Float) (k : ℕ) → suc (twice k) < length l → entries (set (set l (twice k) z.re) (suc (twice k)) z.im) ≡ set (entries l) k z
    go [] k h = absurd (omega arith)
    go (x ∷ []) zero h = absurd (omega arith)
    go (x ∷ []) (suc k) h = absurd (omega arith)
    go (x ∷ y ∷ l) zero h = refl
    go (x ∷ y ∷ l) (suc k) h = ap (λ (t : List Complex). record { re = x; im = y } ∷ t) (go l k (omega arith))

-- the numbers are the parts of their entries
pub parts_are : (m : ℕ) (l : List Float) (e : List Complex) → length l ≡ 2 * m → entries l ≡ e → l ≡ parts_of e
unfolding entries twice parts_of
parts_are m l e h f = go m l (h ∙ twice-is m) ∙ ap parts_of f
  where
    go : (m : ℕ) (l : List Float) → length l ≡ twice m → l ≡ parts_of (entries l)
    go zero [] h = refl
    go zero (x ∷ l) h = absurd (omega arith)
    go (suc m) [] h = absurd (omega arith)
    go (suc m) (x ∷ []) h = absurd (omega arith)
    go (suc m) (x ∷ y ∷ l) h = ap (λ (t : List Float). x ∷ y ∷ t) (go m l (omega arith))

pub length-parts : (e : List Complex) → length (parts_of e) ≡ 2 * length e
unfolding parts_of twice
length-parts e = go e ∙ sym (twice-is (length e))
  where
    go : (e : List Complex) → length (parts_of e) ≡ twice (length e)
    go [] = refl
    go (z ∷ l) = ap (λ (k : ℕ). suc (suc k)) (go l)
