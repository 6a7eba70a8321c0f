-- The loops of the search, turn by turn. Assumes nothing.
use mathlib.Core.Path.{◌≡◌, refl, sym, ◌∙◌, ap, ap₂, subst}
use mathlib.Core.Bool.{Bool, cond}
use mathlib.Core.Logic.{◌⊎◌, inl, inr}
use mathlib.Core.List.{List, [], ◌∷◌, ◌++◌, append-nil, map}
use Prim.Native.Nat.{ℕ, zero, suc, ◌+◌, ◌-◌, ◌*◌, ◌/◌, ◌%◌, ◌<◌, ◌≤◌}
use native.Mathlib.Omega.{arith}
use lib.Lanes.{top, zip2, sel_l}
use lib.ListN.{length, get_or, take, drop, replicate}
use lib.Seq.{ext_get_or, get_or-take, take-append_seam, drop-append_seam, drop-length}
use borrow.Rule.Slice.PartMut.{put_mid}
use lib.Ieee.{Float, nan, lt}
use Rattle.std.proofs.lemmas.Simd.{get_or-zip2, length-zip2}
use Rattle.lists.specs.Build.{build}
use Rattle.lists.specs.Fold.{fold}
use Rattle.lists.proofs.Chains.{build-replicate}
use Rattle.lists.proofs.Rows.{build-append}
use Rattle.lists.proofs.Filling.{length-build, get_or-build, build-same, build-part}
use Rattle.numbers.specs.Number.{zero_f}
use Rattle.magnitudes.specs.Kept.{cell, largest, largest_in, column}

-- ---- lanes

-- the larger of two, the first where neither is
abbrev pub wider : Float → Float → Float
wider x y = cond (lt x y) y x

-- a choice by lanes is one of each two numbers
chosen : (test : Float → Float → ℕ) → ((x y : Float) → top 63 (test x y) ≡ lt x y) → (xs ys : List Float) → sel_l (map (top 63) (zip2 test xs ys)) ys xs ≡ zip2 wider xs ys
chosen test h [] ys = refl
chosen test h (x ∷ xs) [] = refl
chosen test h (x ∷ xs) (y ∷ ys) = ap₂ (λ (z : Float) (l : List Float). z ∷ l) (ap (λ (b : Bool). cond b y x) (h x y)) (chosen test h xs ys)

zip-build : (f : Float → Float → Float) (n : ℕ) (g h : ℕ → Float) → zip2 f (build n g) (build n h) ≡ build n (λ i. f (g i) (h i))
zip-build f n g h =
    let e : length (zip2 f (build n g) (build n h)) ≡ n = length-zip2 f (build n g) (build n h) (length-build n g ∙ sym (length-build n h)) ∙ length-build n g in
    ext_get_or nan (zip2 f (build n g) (build n h)) (build n (λ i. f (g i) (h i))) (e ∙ sym (length-build n (λ i. f (g i) (h i))))
    (λ i l.
    let k : i < n = omega (arith, e) in
    get_or-zip2 f (build n g) (build n h) i nan nan nan (omega (arith, length-build n g)) (omega (arith, length-build n h))
    ∙ ap₂ f (get_or-build nan n i g k) (get_or-build nan n i h k)
    ∙ sym (get_or-build nan n i (λ i. f (g i) (h i)) k))

-- one row more: xs are the largest of eight columns up to row j, and ys is that row's part
pub one-row : (test : Float → Float → ℕ) → ((x y : Float) → top 63 (test x y) ≡ lt x y) → (h j : ℕ) (s xs ys : List Float) → h * 8 + 1 ≤ j → xs ≡ build 8 (largest_in j s h) → ys ≡ build 8 (λ c. cell s j (h * 8 + c))
    → sel_l (map (top 63) (zip2 test xs ys)) ys xs ≡ build 8 (largest_in (j + 1) s h)
unfolding largest fold
one-row test t h j s xs ys l e f =
    let q : j + 1 - (h * 8 + 1) ≡ suc (j - (h * 8 + 1)) = omega arith in
    let r : h * 8 + 1 + (j - (h * 8 + 1)) ≡ j = omega arith in
    chosen test t xs ys
    ∙ ap₂ (zip2 wider) e f
    ∙ zip-build wider 8 (largest_in j s h) (λ c. cell s j (h * 8 + c))
    ∙ build-same 8 _ _ (λ c _. rw (q, r) refl)

-- none yet
pub no-row : (h j : ℕ) (s : List Float) → j ≤ h * 8 + 1 → replicate 8 zero_f ≡ build 8 (largest_in j s h)
unfolding largest fold
no-row h j s l = let q : j - (h * 8 + 1) ≡ 0 = omega arith in build-replicate 8 zero_f ∙ build-same 8 _ _ (λ c _. rw q refl)

front-of-front : (a b : ℕ) (l : List Float) → a ≤ b → take a (take b l) ≡ take a l
front-of-front zero b l h = refl
front-of-front (suc a) zero l h = absurd (omega arith)
front-of-front (suc a) (suc b) [] h = refl
front-of-front (suc a) (suc b) (x ∷ l) h = ap (λ (r : List Float). x ∷ r) (front-of-front a b l (omega arith))

-- eight cells of row j
pub row-lent : (h j k : ℕ) (s : List Float) → k ≡ j * 16 + h * 8 → k + 8 ≤ 256 → length s ≡ 256 → take 8 (drop 0 (take (256 - k) (drop k s))) ≡ build 8 (λ c. cell s j (h * 8 + c))
row-lent h j k s e l len =
    front-of-front 8 (256 - k) (drop k s) (omega arith)
    ∙ sym (build-part nan k 8 s (omega arith))
    ∙ build-same 8 _ _ (λ c _. ap (λ (i : ℕ). get_or s i nan) (omega (arith, e)))

-- both halves are all columns
pub both : (n : ℕ) (s : List Float) → build 8 (largest_in n s 0) ++ build 8 (largest_in n s 1) ≡ build 16 (column n s)
both n s = ap₂ (λ (x y : List Float). x ++ y) (build-same 8 _ _ left) (build-same 8 _ _ right) ∙ sym (build-append 8 8 (column n s))
  where
    left : (c : ℕ) → c < 8 → largest_in n s 0 c ≡ column n s c
    left c l = let e : c / 8 ≡ 0 = omega arith in let f : c % 8 ≡ c = omega arith in rw (e, f) refl

    right : (c : ℕ) → c < 8 → largest_in n s 1 c ≡ column n s (8 + c)
    right c l = let e : (8 + c) / 8 ≡ 1 = omega arith in let f : (8 + c) % 8 ≡ c = omega arith in rw (e, f) refl

-- r written over the second half of a list whose first is l
pub halves-joined : (l z r : List Float) → length l ≡ 8 → length z ≡ 8 → put_mid 8 8 (l ++ z) r ≡ l ++ r
halves-joined l z r e f =
    let a : take 8 (l ++ z) ≡ l = subst (λ (k : ℕ). take k (l ++ z) ≡ l) e (take-append_seam l z) in
    let b : drop 8 (l ++ z) ≡ z = subst (λ (k : ℕ). drop k (l ++ z) ≡ z) e (drop-append_seam l z) in
    let c : drop 8 z ≡ [] = subst (λ (k : ℕ). drop k z ≡ []) f (drop-length z) in
    ap₂ (λ (x y : List Float). x ++ (r ++ y)) a (ap (drop 8) b ∙ c) ∙ ap (λ (x : List Float). l ++ x) (append-nil r)

-- column c of the first n
pub column-item : (n c : ℕ) (s r : List Float) → n ≤ 16 → c < n → r ≡ build 16 (column n s) → get_or (take n r) c nan ≡ column n s c
column-item n c s r h l e =
    get_or-take n r c nan l ∙ ap (λ (r : List Float). get_or r c nan) e ∙ get_or-build nan 16 c (column n s) (omega arith)

-- a loop that ends at n, or has no turn
pub all-rows : (h j n : ℕ) (s : List Float) → n ≤ j → (j ≡ h * 8 + 1) ⊎ (j ≤ n) → build 8 (largest_in j s h) ≡ build 8 (largest_in n s h)
all-rows h j n s l at = build-same 8 _ _ (λ k _. rw (ends at) refl)
  where
    ends : (j ≡ h * 8 + 1) ⊎ (j ≤ n) → j - (h * 8 + 1) ≡ n - (h * 8 + 1)
    ends (inl e) = omega (arith, e)
    ends (inr e) = omega (arith, e)
