-- Transposes, row by row and entry by entry. Assumes nothing.
use Prim.Native.Nat.{ℕ, ◌+◌, ◌*◌, ◌/◌, ◌%◌, ◌<◌}
use mathlib.Core.Path.{◌≡◌, ap, ◌∙◌}
use mathlib.Core.List.{List, ◌++◌, append-nil}
use native.Mathlib.Omega.{arith}
use lib.ListN.{length, drop, drop_of_length-le}
use lib.Ieee.{Float, nan}
use Rattle.lists.specs.Build.{build}
use Rattle.lists.proofs.Filling.{length-build, build-same, get_or-build}
use Rattle.lists.proofs.Parts.{entry-fits, row-of, column-of}
use Rattle.matrix.specs.Product.{cell, transposed_of}

pub length-transposed : (n : ℕ) (a : List Float) → length (transposed_of n a) ≡ n * n
unfolding transposed_of
length-transposed n a = length-build (n * n) _

-- number z of the transpose
abbrev pub transposed_at : ℕ → List Float → ℕ → Float
transposed_at n a z = cell n a (z % n) (z / n)

-- its row j
pub transposed-row : (n : ℕ) (a : List Float) (j : ℕ) → build n (λ i. cell n a i j) ≡ build n (λ i. transposed_at n a (j * n + i))
transposed-row n a j = build-same n _ (λ i. transposed_at n a (j * n + i)) (λ i l. rw (row-of j i n, column-of j i n))

pub transposed : (n : ℕ) (a : List Float) (i j : ℕ) → i < n → j < n → cell n (transposed_of n a) j i ≡ cell n a i j
unfolding transposed_of
transposed n a i j h l = get_or-build nan (n * n) (j * n + i) (transposed_at n a) (entry-fits j i n n l h) ∙ rw (row-of j i n, column-of j i n)

-- written over all of l
pub transposed-whole : (n : ℕ) (a l : List Float) → length l ≡ n * n → transposed_of n a ++ drop (n * n) l ≡ transposed_of n a
transposed-whole n a l h = ap (λ (t : List Float). transposed_of n a ++ t) (drop_of_length-le l {i = n * n} (omega arith)) ∙ append-nil (transposed_of n a)
