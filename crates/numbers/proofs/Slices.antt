-- Numbers and words of slices: how many there are, and that only the front counts. Assumes nothing.
use Prim.Native.Nat.{ℕ, ◌≤◌}
use mathlib.Core.Path.{◌≡◌, ap}
use mathlib.Core.List.{List, ◌++◌}
use native.Mathlib.Nat.{lt_of_lt_of_le}
use lib.ListN.{length, get_or-append}
use lib.Ieee.{Float, nan}
use Rattle.lists.proofs.Filling.{build-same, length-build}
use Rattle.numbers.specs.Number.{word}
use Rattle.numbers.specs.Slice.{numbers_at, words_of}

pub length-words : (n : ℕ) (xs : List Float) → length (words_of n xs) ≡ n
unfolding words_of
length-words n xs = length-build n _

pub length-numbers : (s : List ℕ) (p n : ℕ) → length (numbers_at s p n) ≡ n
unfolding numbers_at
length-numbers s p n = length-build n _

pub words-front : (n : ℕ) (xs ys : List Float) → n ≤ length xs → words_of n (xs ++ ys) ≡ words_of n xs
unfolding words_of
words-front n xs ys h = build-same n _ _ (λ i l. ap word (get_or-append xs ys nan i (lt_of_lt_of_le l h)))
