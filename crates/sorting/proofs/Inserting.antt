-- Insertion into a slice, after a shift of what stands behind, is insertion into a list. Assumes nothing.
use mathlib.Core.Path.{◌≡◌, refl, sym, ◌∙◌, ap, ap₂}
use mathlib.Core.Bool.{Bool, true, false, not, cond}
use mathlib.Core.List.{List, [], ◌∷◌, ◌++◌, append_assoc}
use Prim.Native.Nat.{ℕ, suc, ◌+◌, ◌-◌, ◌<◌, ◌≤◌}
use native.Mathlib.Numerals.{add-one}
use native.Mathlib.Omega.{arith}
use lib.ListN.{length, set, take, drop, length-take, length-drop}
use lib.Seq.{take-take, take-set-lt, take-suc-set}
use lib.Dec.{ltb}
use lib.Ieee.{Float}
use borrow.Author.Tests.{ltb-false}
use Rattle.std.proofs.Common.{Option, Some, None}
use Rattle.std.specs.List.{position, position_or_len, copy_within}
use Rattle.std.specs.Option.{unwrap_or}
use Rattle.std.proofs.lemmas.List.{drop-take, set-append_left}
use Rattle.std.proofs.lemmas.List.Edits.{take-paste}
use Rattle.std.proofs.lemmas.List.Sums.{prefix_len-le-length}
use Rattle.numbers.specs.Slice.{at}
use Rattle.sorting.specs.Sort.{before, insert, order_by}

module _ (falling : Bool) (w : List Float) (k : ℕ) where
  abbrev first : List ℕ → ℕ
  first l = position_or_len (λ j. before falling (at w k) (at w j)) l

  -- a list with k inserted
  insert-at : (l : List ℕ) → insert falling w k l ≡ take (first l) l ++ k ∷ drop (first l) l
  unfolding insert
  insert-at [] = refl
  insert-at (j ∷ l) = go (before falling (at w k) (at w j)) (insert-at l)
    where
      go : (b : Bool) → insert falling w k l ≡ take (first l) l ++ k ∷ drop (first l) l
          → cond b (k ∷ j ∷ l) (j ∷ insert falling w k l) ≡ take (cond (not b) (1 + first l) 0) (j ∷ l) ++ k ∷ drop (cond (not b) (1 + first l) 0) (j ∷ l)
      go true e = refl
      go false e = let one : 1 + first l ≡ suc (first l) = omega arith in rw one (ap (λ (m : List ℕ). j ∷ m) e)

-- a part of a list moved up by one place, and a number put where it began
module _ (l : List ℕ) (i k : ℕ) (h : i ≤ k) (long : k < length l) where
  pub put-in : take (k + 1) (set (copy_within l i k (i + 1)) i k) ≡ take i (take k l) ++ k ∷ drop i (take k l)
  put-in =
      let r : List ℕ = take (k - i) (drop i l) in
      let m : List ℕ = copy_within l i k (i + 1) in
      let n : k + 1 ≡ i + 1 + (k - i) = omega arith in
      let u : i + (k - i) ≡ k = omega arith in
      let a : k - i ≤ length (drop i l) = omega (arith, length-drop i l) in
      let b : i < length (take (i + 1) l) = omega (arith, length-take (i + 1) l) in
      let front : take (k + 1) m ≡ take (i + 1) l ++ r = ap (λ (z : ℕ). take z m) n ∙ take-paste l (i + 1) (drop i l) (k - i) (omega arith) a in
      let behind : set (take (i + 1) l) i k ≡ take i l ++ k ∷ [] = sym (take-set-lt (i + 1) l i k (omega arith)) ∙ ap (λ (z : ℕ). take z (set l i k)) (add-one i) ∙ take-suc-set l i k (omega arith) in
      let rest : r ≡ drop i (take k l) = sym (drop-take i (k - i) l) ∙ ap (λ (z : ℕ). drop i (take z l)) u in
      take-set-lt (k + 1) m i k (omega arith)
      ∙ ap (λ (t : List ℕ). set t i k) front
      ∙ set-append_left (take (i + 1) l) r i k b
      ∙ ap (λ (t : List ℕ). t ++ r) behind
      ∙ append_assoc (take i l) (k ∷ []) r
      ∙ ap₂ (λ (x y : List ℕ). x ++ k ∷ y) (sym (take-take i k l h)) rest

-- where `position` finds nothing, the end is the place
place-is : (p : ℕ → Bool) (l : List ℕ) (k : ℕ) → length l ≡ k → unwrap_or (position p l) k ≡ position_or_len p l
place-is p l k e = go (ltb (position_or_len p l) (length l)) refl
  where
    go : (b : Bool) → ltb (position_or_len p l) (length l) ≡ b → unwrap_or (cond b (Some (position_or_len p l)) None) k ≡ position_or_len p l
    go true f = refl
    go false f = let g = ltb-false _ _ f in omega (arith, prefix_len-le-length (λ (j : ℕ). not (p j)) l)

pub inserted : (falling : Bool) (w : List Float) (k i : ℕ) (x : Float) (o : Option ℕ) (l m : List ℕ) → k < length l → x ≡ at w k
    → o ≡ position (λ j. before falling x (at w j)) (take k l) → i ≡ unwrap_or o k → m ≡ copy_within l i k (i + 1) → take (k + 1) (set m i k) ≡ insert falling w k (take k l)
inserted falling w k i x o l m h a b c e =
    let t : length (take k l) ≡ k = omega (arith, length-take k l) in
    let p : i ≡ first falling w k (take k l) = c ∙ rw (b, a) (place-is (λ j. before falling (at w k) (at w j)) (take k l) k t) in
    let q : i ≤ k = omega (arith, prefix_len-le-length (λ (j : ℕ). not (before falling (at w k) (at w j))) (take k l)) in
    rw e (put-in l i k q h) ∙ ap (λ (z : ℕ). take z (take k l) ++ k ∷ drop z (take k l)) p ∙ sym (insert-at falling w k (take k l))

pub order-more : (falling : Bool) (w : List Float) (k : ℕ) (l m : List ℕ) → take k l ≡ order_by falling w k → take (k + 1) m ≡ insert falling w k (take k l) → take (k + 1) m ≡ order_by falling w (k + 1)
unfolding order_by
order-more falling w k l m e g = rw add-one (rw add-one at g ∙ ap (insert falling w k) e)
