-- Words of a card, in document 01's sense: 64 bits, the highest byte first.
use Rattle.std.specs.Prelude.{ℕ, ◌+◌, ◌*◌, ◌/◌, List, get_or, length}
use Rattle.lists.specs.Fold.{fold}

-- word number `place` of the bytes s
unfoldable pub word_at : List ℕ → ℕ → ℕ
word_at s place = fold 8 (λ k w. w * 256 + get_or s (place * 8 + k) 0) 0

-- how many whole words there are
abbrev pub words_in : List ℕ → ℕ
words_in s = length s / 8
