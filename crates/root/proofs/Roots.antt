-- Roots at the edges, computed: a number and its root, as words. A NaN is 7ff8000000000000. Assumes nothing.
use Prim.Native.Nat.{ℕ}
use mathlib.Core.Bool.{Bool, true, ◌&&◌}
use mathlib.Core.List.{List, [], ◌∷◌, foldr}
use lib.Dec.{T, eqb}
use lib.Ieee as Ieee
use Rattle.numbers.specs.Number.{number, word}
use Rattle.root.specs.Root.{sqrt}

rows : List (ℕ × ℕ)
rows =
    (0, 0)
    ∷ (0x8000000000000000, 0x8000000000000000)  -- a zero keeps its sign
    ∷ (1, 0x1e60000000000000)  -- 2 ^ -1074, the least number
    ∷ (0x000fffffffffffff, 0x1fffffffffffffff)  -- the largest with no leading digit
    ∷ (0x3fefffffffffffff, 0x3fefffffffffffff)  -- just below 1
    ∷ (0x3ff0000000000001, 0x3ff0000000000000)  -- just above 1
    ∷ (0x4000000000000000, 0x3ff6a09e667f3bcd)  -- 2
    ∷ (0x7fefffffffffffff, 0x5fefffffffffffff)  -- the largest number
    ∷ (0x7ff0000000000000, 0x7ff0000000000000)  -- +infinity
    ∷ (0xfff0000000000000, 0x7ff8000000000000)  -- -infinity
    ∷ (0x8000000000000001, 0x7ff8000000000000)  -- just below zero
    ∷ (0x7ff8000000000000, 0x7ff8000000000000)
    ∷ []

right : ℕ × ℕ → Bool
right (x, r) = eqb (word (sqrt (number x))) r

roots : T (foldr (λ r b. right r && b) true rows)
unfolding rows right Ieee.sqrt Ieee.of_bits Ieee.to_bits Ieee.size Ieee.odd
roots = tt
