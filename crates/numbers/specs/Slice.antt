-- Numbers between a card's words, the work slice and the result's words.
use Rattle.std.specs.Prelude.{Bool, true, ◌&&◌, List, [], ◌∷◌, ℕ, ◌+◌, get_or, length, Float}
use Rattle.std.specs.Float.{nan}
use Rattle.lists.specs.Build.{build}
use Rattle.numbers.specs.Word.{word_at}
use Rattle.numbers.specs.Number.{number, word, finite, zero_f}

-- entry i of a list of numbers
abbrev pub at : List Float → ℕ → Float
at xs i = get_or xs i nan

-- the number in word p of the card s
abbrev pub number_at : List ℕ → ℕ → Float
number_at s p = number (word_at s p)

-- the n numbers from word p on
unfoldable pub numbers_at : List ℕ → ℕ → ℕ → List Float
numbers_at s p n = build n (λ i. number_at s (p + i))

-- the words of the first n numbers of a list
unfoldable pub words_of : ℕ → List Float → List ℕ
words_of n xs = build n (λ i. word (at xs i))

-- as many +0 as the list has entries
unfoldable pub blank : List Float → List Float
blank xs = build (length xs) (λ _. zero_f)

-- all of them are finite
unfoldable pub all_finite : List Float → Bool
all_finite [] = true
all_finite (x ∷ xs) = finite x && all_finite xs
