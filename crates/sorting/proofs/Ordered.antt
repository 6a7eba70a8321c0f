-- The order that insertion gives is a stable sort, rising or falling. Assumes nothing.
use mathlib.Core.Path.{◌≡◌, refl, sym, ◌∙◌, ap}
use mathlib.Core.Bool.{Bool, true, false, not, cond, ◌&&◌}
use mathlib.Core.Logic.{inl, inr, ⊎_elim}
use mathlib.Core.List.{List, [], ◌∷◌}
use Prim.Native.Nat.{ℕ, zero, suc, ◌+◌, ◌<◌}
use native.Mathlib.Omega.{arith}
use native.Mathlib.Nat.{not-suc-le-zero, le_of_suc-le-suc, eq-or-lt_of_le}
use lib.Dec.{eqb, ltb}
use lib.ListN.{length, get_or}
use lib.Ieee.{Float, lt, le, eq, is_nan}
use borrow.Author.Tests.{lt-ltb, le-ltb, ltb-true, ltb-false, eqb-true, eqb-false}
use Rattle.booleans.proofs.Joined.{clash, or_left}
use Rattle.numbers.specs.Number.{precedes, negative}
use Rattle.numbers.specs.Slice.{at}
use Rattle.numbers.proofs.Order.{not-above}
use Rattle.sorting.specs.Sort.{before, insert, order_by}
use Rattle.sorting.specs.Sorted.{count, InOrder, Sorts}

-- ---- how often an index occurs

swap : (a b c d : ℕ) → d ≡ b + c → a + d ≡ b + (a + c)
swap a b c d h = omega arith

count-insert : (falling : Bool) (w : List Float) (i k : ℕ) (l : List ℕ) → count i (insert falling w k l) ≡ cond (eqb i k) 1 0 + count i l
unfolding count insert
count-insert falling w i k [] = refl
count-insert falling w i k (j ∷ l) = go (before falling (at w k) (at w j)) (count-insert falling w i k l)
  where
    go : (b : Bool) → count i (insert falling w k l) ≡ cond (eqb i k) 1 0 + count i l
        → count i (cond b (k ∷ j ∷ l) (j ∷ insert falling w k l)) ≡ cond (eqb i k) 1 0 + (cond (eqb i j) 1 0 + count i l)
    go true e = refl
    go false e = swap (cond (eqb i j) 1 0) (cond (eqb i k) 1 0) (count i l) (count i (insert falling w k l)) e

each-once : (falling : Bool) (w : List Float) (n i : ℕ) → count i (order_by falling w n) ≡ cond (ltb i n) 1 0
unfolding count order_by
each-once falling w zero i = rw (le-ltb i 0 (omega arith))
each-once falling w (suc n) i = count-insert falling w i n (order_by falling w n) ∙ ap (λ (c : ℕ). cond (eqb i n) 1 0 + c) (each-once falling w n i) ∙ go (eqb i n) (ltb i n) refl refl
  where
    go : (x y : Bool) → eqb i n ≡ x → ltb i n ≡ y → cond x 1 0 + cond y 1 0 ≡ cond (ltb i (suc n)) 1 0
    go true true e f = absurd (omega (arith, eqb-true i n e, ltb-true i n f))
    go true false e f = rw (lt-ltb i (suc n) (omega (arith, eqb-true i n e)))
    go false true e f = rw (lt-ltb i (suc n) (omega (arith, ltb-true i n f)))
    go false false e f =
        rw (le-ltb i (suc n) (⊎_elim (λ (q : n ≡ i). absurd (eqb-false i n e (sym q))) (λ (q : n < i). q) (eq-or-lt_of_le (ltb-false i n f))))

-- ---- below n

-- every index is below m
Below : ℕ → List ℕ → Type 0
Below m [] = Unit {0}
Below m (j ∷ l) = (j < m) × Below m l

below-insert : (falling : Bool) (w : List Float) (m k : ℕ) (l : List ℕ) → k < m → Below m l → Below m (insert falling w k l)
unfolding Below insert
below-insert falling w m k [] h p = (h, tt)
below-insert falling w m k (j ∷ l) h p = go (before falling (at w k) (at w j)) (below-insert falling w m k l h p.1)
  where
    go : (b : Bool) → Below m (insert falling w k l) → Below m (cond b (k ∷ j ∷ l) (j ∷ insert falling w k l))
    go true q = (h, p)
    go false q = (p.0, q)

below_more : (m : ℕ) (l : List ℕ) → Below m l → Below (suc m) l
unfolding Below
below_more m [] p = tt
below_more m (j ∷ l) p = (omega (arith, p.0), below_more m l p.1)

below-order : (falling : Bool) (w : List Float) (n : ℕ) → Below n (order_by falling w n)
unfolding order_by Below
below-order falling w zero = tt
below-order falling w (suc n) = below-insert falling w (suc n) n (order_by falling w n) (omega arith) (below_more n (order_by falling w n) (below-order falling w n))

length-insert : (falling : Bool) (w : List Float) (k : ℕ) (l : List ℕ) → length (insert falling w k l) ≡ suc (length l)
unfolding insert
length-insert falling w k [] = refl
length-insert falling w k (j ∷ l) = go (before falling (at w k) (at w j)) (length-insert falling w k l)
  where
    go : (b : Bool) → length (insert falling w k l) ≡ suc (length l) → length (cond b (k ∷ j ∷ l) (j ∷ insert falling w k l)) ≡ suc (suc (length l))
    go true e = refl
    go false e = ap suc e

pub length-order : (falling : Bool) (w : List Float) (n : ℕ) → length (order_by falling w n) ≡ n
unfolding order_by
length-order falling w zero = refl
length-order falling w (suc n) = length-insert falling w n (order_by falling w n) ∙ ap suc (length-order falling w n)

one_below : (m : ℕ) (l : List ℕ) (r : ℕ) → Below m l → r < length l → get_or l r 0 < m
unfolding Below
one_below m [] r p h = absurd (not-suc-le-zero h)
one_below m (j ∷ l) zero p h = p.0
one_below m (j ∷ l) (suc r) p h = one_below m l r p.1 (le_of_suc-le-suc h)

pub order_below : (falling : Bool) (w : List Float) (n r : ℕ) → r < n → get_or (order_by falling w n) r 0 < n
order_below falling w n r h = one_below n (order_by falling w n) r (below-order falling w n) (rw length-order h)

-- ---- in order

-- of two numbers one does not precede the other
one-first : (x y : Float) → precedes x y ≡ true → precedes y x ≡ false
unfolding precedes le
one-first x y h = go (is_nan x) (is_nan y) (lt x y) (lt y x) (negative x) (negative y) (λ e. not-above x y (or_left (lt x y) (eq x y) e)) h
  where
    go : (a b c d s t : Bool) → (c ≡ true → d ≡ false) → cond a false (cond b true (cond c true (cond d false (s && not t)))) ≡ true
        → cond b false (cond a true (cond d true (cond c false (t && not s)))) ≡ false
    go true b c d s t f h = clash false h refl
    go false true c d s t f h = refl
    go false false true d s t f h = rw (f refl)
    go false false false true s t f h = clash false h refl
    go false false false false true false f h = refl
    go false false false false true true f h = clash false h refl
    go false false false false false t f h = clash false h refl

asymmetric : (falling : Bool) (x y : Float) → before falling x y ≡ true → before falling y x ≡ false
unfolding before
asymmetric true x y h = one-first y x h
asymmetric false x y h = one-first x y h

-- an insertion after j, which may stand before k
in_after : (falling : Bool) (w : List Float) (k j : ℕ) (l : List ℕ) → Below k (j ∷ l) → before falling (at w k) (at w j) ≡ false → InOrder falling w (j ∷ l) → InOrder falling w (j ∷ insert falling w k l)
unfolding insert Below
in_after falling w k j [] b e p = ((e, inr b.0), tt)
in_after falling w k j (i ∷ l) b e p = go (before falling (at w k) (at w i)) refl (λ g. in_after falling w k i l b.1 g p.1)
  where
    go : (x : Bool) → before falling (at w k) (at w i) ≡ x → (before falling (at w k) (at w i) ≡ false → InOrder falling w (i ∷ insert falling w k l)) → InOrder falling w (j ∷ cond x (k ∷ i ∷ l) (i ∷ insert falling w k l))
    go true g q = ((e, inr b.0), ((asymmetric falling (at w k) (at w i) g, inl g), p.1))
    go false g q = (p.0, q g)

in_insert : (falling : Bool) (w : List Float) (k : ℕ) (l : List ℕ) → Below k l → InOrder falling w l → InOrder falling w (insert falling w k l)
unfolding insert Below
in_insert falling w k [] b p = tt
in_insert falling w k (j ∷ l) b p = go (before falling (at w k) (at w j)) refl
  where
    go : (x : Bool) → before falling (at w k) (at w j) ≡ x → InOrder falling w (cond x (k ∷ j ∷ l) (j ∷ insert falling w k l))
    go true g = ((asymmetric falling (at w k) (at w j) g, inl g), p)
    go false g = in_after falling w k j l b g p

in_order : (falling : Bool) (w : List Float) (n : ℕ) → InOrder falling w (order_by falling w n)
unfolding order_by
in_order falling w zero = tt
in_order falling w (suc n) = in_insert falling w n (order_by falling w n) (below-order falling w n) (in_order falling w n)

pub sorts : (falling : Bool) (w : List Float) (n : ℕ) → Sorts falling w n (order_by falling w n)
sorts falling w n = record { once = each-once falling w n; ordered = in_order falling w n }
