-- The largest size, row after row, is the largest of all numbers. Assumes nothing.
use mathlib.Core.Path.{◌≡◌, refl, sym, ◌∙◌, ap, subst}
use mathlib.Core.Bool.{Bool, true, false, cond}
use mathlib.Core.List.{List}
use Prim.Native.Nat.{ℕ, zero, suc, ◌+◌, ◌*◌, ◌-◌, ◌≤◌}
use native.Mathlib.Nat.{lt_of_not-le, not-le_of_lt, le_of_lt, zero-mul, suc-mul}
use native.Mathlib.Numerals.{add-one}
use native.Mathlib.Omega.{arith}
use lib.IntN.{pos}
use lib.ListN.{take, drop, length}
use lib.Ieee.{Float, nan, inf, fin, up, down, lt, of_bits}
use lib.Seq.{get_or-take, get_or-drop}
use lib.Ieee.Fits.{down_pos}
use lib.Ieee.Positive.{through}
use borrow.Author.Tests.{ltb-true, ltb-false, lt-ltb, le-ltb}
use Rattle.lists.specs.Fold.{fold}
use Rattle.lists.proofs.Folding.{fold-none, fold_same, fold-keeps, fold_on}
use Rattle.lists.proofs.Parts.{lent-long}
use Rattle.numbers.specs.Number.{zero_f, abs, max}
use Rattle.numbers.specs.Slice.{at}
use Rattle.numbers.proofs.Leaves.{clash}
use Rattle.pivots.specs.Pivots.{scale_of}
use Rattle.pivots.proofs.Sizes.{Sized, larger-size, still-sized, one_of, not-below-zero, after-zero}

-- ---- Three sizes

-- x is above t, and t above s
pub past-both : (s t x : Float) → Sized s → Sized t → lt s t ≡ true → lt t (abs x) ≡ true → lt s (abs x) ≡ true
unfolding lt abs
past-both nan t x h k p q = absurd h
past-both (inf true) t x h k p q = absurd h
past-both (inf false) nan x h k p q = absurd k
past-both (inf false) (inf u) x h k p q = clash p
past-both (inf false) (fin u n d) x h k p q = clash p
past-both (fin true m e) t x h k p q = absurd h
past-both (fin false m e) nan x h k p q = absurd k
past-both (fin false m e) (inf true) x h k p q = absurd k
past-both (fin false m e) (inf false) nan h k p q = clash q
past-both (fin false m e) (inf false) (inf u) h k p q = clash q
past-both (fin false m e) (inf false) (fin u o g) h k p q = clash q
past-both (fin false m e) (fin true n d) x h k p q = absurd k
past-both (fin false m e) (fin false n d) nan h k p q = clash q
past-both (fin false m e) (fin false n d) (inf u) h k p q = refl
past-both (fin false m e) (fin false n d) (fin u o g) h k p q =
    lt-ltb _ _
    (lt_of_not-le
    (λ (l : o * up g * down e ≤ m * up e * down g). not-le_of_lt (ltb-true (m * up e * down d) (n * up d * down e) p)
    (through (n * up d) (o * up g) (m * up e) (down d) (down g) (down e) (down_pos g) (le_of_lt (ltb-true (n * up d * down g) (o * up g * down d) q)) l)))

-- x is not above t, nor t above s
pub past-neither : (s t x : Float) → Sized s → Sized t → lt s t ≡ false → lt t (abs x) ≡ false → lt s (abs x) ≡ false
unfolding lt abs
past-neither nan t x h k p q = absurd h
past-neither (inf true) t x h k p q = absurd h
past-neither (inf false) t nan h k p q = refl
past-neither (inf false) t (inf u) h k p q = refl
past-neither (inf false) t (fin u o g) h k p q = refl
past-neither (fin true m e) t x h k p q = absurd h
past-neither (fin false m e) nan x h k p q = absurd k
past-neither (fin false m e) (inf true) x h k p q = absurd k
past-neither (fin false m e) (inf false) x h k p q = clash (sym p)
past-neither (fin false m e) (fin true n d) x h k p q = absurd k
past-neither (fin false m e) (fin false n d) nan h k p q = refl
past-neither (fin false m e) (fin false n d) (inf u) h k p q = clash (sym q)
past-neither (fin false m e) (fin false n d) (fin u o g) h k p q =
    le-ltb _ _ (through (o * up g) (n * up d) (m * up e) (down g) (down d) (down e) (down_pos d) (ltb-false _ _ q) (ltb-false _ _ p))

-- the larger of s, t and x, in either order of the comparisons
joined : (s t x : Float) (b c : Bool) → lt t x ≡ b → lt s t ≡ c → (c ≡ true → b ≡ true → lt s x ≡ true) → (c ≡ false → b ≡ false → lt s x ≡ false)
    → cond (lt s (cond b x t)) (cond b x t) s ≡ cond (lt (cond c t s) x) x (cond c t s)
joined s t x true true p q h k = rw (p, h refl refl)
joined s t x true false p q h k = refl
joined s t x false true p q h k = rw (p, q)
joined s t x false false p q h k = rw (q, k refl refl)

pub larger-joins : (s t x : Float) → Sized s → Sized t → max s (max t (abs x)) ≡ max (max s t) (abs x)
larger-joins s t x h k =
    ap (max s) (sym (larger-size t (abs x) k))
    ∙ sym (larger-size s (cond (lt t (abs x)) (abs x) t) h)
    ∙ joined s t (abs x) (lt t (abs x)) (lt s t) refl refl (past-both s t x h k) (past-neither s t x h k)
    ∙ larger-size (cond (lt s t) t s) (abs x) (one_of (lt s t) t s k h)
    ∙ ap (λ (v : Float). max v (abs x)) (larger-size s t h)

-- ---- The largest of n sizes
abbrev largest : ℕ → (ℕ → Float) → Float → Float
largest n f s = fold n (λ k s. max s (abs (f k))) s

zero-sized : Sized zero_f
unfolding of_bits
zero-sized = tt

largest-sized : (n : ℕ) (f : ℕ → Float) → Sized (largest n f zero_f)
largest-sized n f = fold-keeps (λ k s. max s (abs (f k))) Sized n zero_f zero-sized (λ i t l h. still-sized t (f i) h)

pub scale-sized : (n : ℕ) (a : List Float) → Sized (scale_of n a)
unfolding scale_of
scale-sized n a = largest-sized n (at a)

-- zero is the smallest
beside-zero : (s : Float) → Sized s → max s zero_f ≡ s
unfolding of_bits
beside-zero s h =
    sym (larger-size s zero_f h) ∙ ap (λ (b : Bool). cond b zero_f s) (sym (after-zero s (pos 0)) ∙ not-below-zero s (pos 0) h)

-- from s on, or from zero and then beside s
from_zero : (s : Float) → Sized s → (n : ℕ) (f : ℕ → Float) → max s (largest n f zero_f) ≡ largest n f s
unfolding fold
from_zero s h zero f = beside-zero s h
from_zero s h (suc n) f = larger-joins s (largest n f zero_f) (f n) h (largest-sized n f) ∙ ap (λ (t : Float). max t (abs (f n))) (from_zero s h n f)

-- one row more: s is the scale of i rows, t that of the next
pub row-joined : (n i e : ℕ) (a : List Float) (s t u : Float) → e ≡ i * n + n → e ≤ length a → s ≡ scale_of (i * n) a → t ≡ scale_of (length (take (e - i * n) (drop (i * n) a))) (take (e - i * n) (drop (i * n) a)) → u ≡ cond (lt s t) t s
    → u ≡ scale_of ((i + 1) * n) a
unfolding scale_of
row-joined n i e a s t u x l p q v =
    v
    ∙ larger-size s t (subst Sized (sym p) (largest-sized (i * n) (at a)))
    ∙ ap (max s) (q ∙ next_row)
    ∙ from_zero s (subst Sized (sym p) (largest-sized (i * n) (at a))) n (λ k. at a (i * n + k))
    ∙ ap (largest n (λ k. at a (i * n + k))) p
    ∙ sym (fold_on (λ k s. max s (abs (at a k))) (i * n) n zero_f)
    ∙ ap (λ (m : ℕ). largest m (at a) zero_f) (sym (ap (λ (k : ℕ). k * n) (add-one i) ∙ suc-mul i n))
  where
    row : List Float
    row = take (e - i * n) (drop (i * n) a)

    next_row : largest (length row) (at row) zero_f ≡ largest n (λ k. at a (i * n + k)) zero_f
    next_row =
        ap (λ (m : ℕ). largest m (at row) zero_f) (lent-long (i * n) e n a x l)
        ∙ fold_same _ _ n zero_f (λ k s h. ap (λ y. max s (abs y)) (let g : e - i * n ≡ n = omega arith in rw g (get_or-take n (drop (i * n) a) k nan h ∙ get_or-drop (i * n) a k nan)))

-- no row, and all of them
pub scale-none : (n : ℕ) (a : List Float) → zero_f ≡ scale_of (0 * n) a
unfolding scale_of
scale-none n a = subst (λ (m : ℕ). zero_f ≡ largest m (at a) zero_f) (sym (zero-mul n)) (fold-none _ _)

pub scale-end : (n i : ℕ) (a : List Float) (s : Float) → i ≡ n → s ≡ scale_of (i * n) a → s ≡ scale_of (n * n) a
scale-end n i a s h e = e ∙ ap (λ (k : ℕ). scale_of (k * n) a) h
