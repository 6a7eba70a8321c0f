-- Bits of several words together, which show that their numbers are finite.
use Rattle.std.specs.Prelude.{List, ℕ, ◌+◌}
use Rattle.std.specs.Int.Bits.{bit_or}
use Rattle.lists.specs.Fold.{fold}
use Rattle.numbers.specs.Word.{word_at}

-- the bits of n words together
unfoldable pub bits_together : List ℕ → ℕ → ℕ → ℕ
bits_together s p n = fold n (λ i bits. bit_or bits (word_at s (p + i))) 0
