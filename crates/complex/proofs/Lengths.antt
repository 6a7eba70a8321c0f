-- Each step of a computation by lanes has as many lanes as what it is made of. Assumes nothing.
use mathlib.Core.Path.{◌≡◌, sym, ◌∙◌}
use mathlib.Core.Bool.{Bool}
use mathlib.Core.List.{List, map}
use Prim.Native.Nat.{ℕ}
use lib.ListN.{length}
use lib.Lanes.{zip2, sel_l}
use Rattle.std.proofs.lemmas.List.{length-map}
use Rattle.std.proofs.lemmas.Simd.{length-zip2, length-sel_l}

pub side-by-side : {A B C : Type 0} (f : A → B → C) (n : ℕ) (xs : List A) (ys : List B) → length xs ≡ n → length ys ≡ n → length (zip2 f xs ys) ≡ n
side-by-side f n xs ys h g = length-zip2 f xs ys (h ∙ sym g) ∙ h

pub choice : {A : Type 0} (n : ℕ) (ms : List Bool) (xs ys : List A) → length ms ≡ n → length xs ≡ n → length ys ≡ n → length (sel_l ms xs ys) ≡ n
choice n ms xs ys k h g = length-sel_l ms xs ys (k ∙ sym h) (k ∙ sym g) ∙ k

pub each-alone : {A B : Type 0} (f : A → B) (n : ℕ) (xs : List A) → length xs ≡ n → length (map f xs) ≡ n
each-alone f n xs h = length-map xs f ∙ h
