-- Numbers put into a model one after the other. Assumes nothing.
use Prim.Native.Nat.{ℕ, zero, suc}
use mathlib.Core.Path.{◌≡◌, refl, sym, ap, ap₂, ◌∙◌}
use mathlib.Core.List.{List, [], ◌∷◌, ◌++◌, append-nil}
use native.Mathlib.Omega.{arith}
use lib.ListN.{length, get_or, set, drop_of_length-le}
use lib.Ieee.{Float}
use Rattle.lists.specs.Build.{over}
use Rattle.lists.specs.Fold.{fold}
use Rattle.numbers.specs.Slice.{at}
use Rattle.descent.specs.Fit.{put}

-- number i at its place
abbrev pub put_one : List ℕ → List Float → ℕ → List Float → List Float
put_one ps xs i l = set l (get_or ps i 0) (at xs i)

-- the first turn, then the others
fold-first : {S : Type 0} (n : ℕ) (f : ℕ → S → S) (s : S) → fold (suc n) f s ≡ fold n (λ i. f (suc i)) (f 0 s)
unfolding fold
fold-first zero f s = refl
fold-first (suc n) f s = ap (f (suc n)) (fold-first n f s)

put-fold : (ps : List ℕ) (xs m : List Float) → length xs ≡ length ps → put ps xs m ≡ fold (length ps) (put_one ps xs) m
unfolding put fold
put-fold [] xs m e = refl
put-fold (p ∷ ps) [] m e = absurd (omega arith)
put-fold (p ∷ ps) (x ∷ xs) m e = put-fold ps xs (set m p x) (omega arith) ∙ sym (fold-first (length ps) (put_one (p ∷ ps) (x ∷ xs)) m)

-- all of l is written over
pub whole-over : {A : Type 0} (a l : List A) → length a ≡ length l → over a l ≡ a
whole-over {A} a l h = ap (λ (t : List A). a ++ t) (drop_of_length-le l {i = length a} (omega arith)) ∙ append-nil a

-- m was written over all of l, and then the numbers went to their places
pub put_all : (ps : List ℕ) (xs m l w out : List Float) (i : ℕ) → i ≡ length ps → length xs ≡ length ps → length m ≡ length l → w ≡ over m l
    → out ≡ fold i (put_one ps xs) w → out ≡ put ps xs m
put_all ps xs m l w out i h e k o p = p ∙ ap₂ (λ (j : ℕ) (t : List Float). fold j (put_one ps xs) t) h (o ∙ whole-over m l k) ∙ sym (put-fold ps xs m e)
