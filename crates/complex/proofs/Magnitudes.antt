-- Magnitudes at the edges, computed: real part, imaginary part and magnitude, as words. A NaN is 7ff8000000000000. Assumes nothing.
use Prim.Native.Nat.{ℕ}
use mathlib.Core.Bool.{Bool, true, ◌&&◌}
use mathlib.Core.List.{List, [], ◌∷◌, foldr}
use lib.Dec.{T, eqb}
use lib.Ieee as Ieee
use Rattle.numbers.specs.Number.{number, word, abs, max, negative}
use Rattle.complex.specs.Arithmetic.{min, magnitude}

rows : List (ℕ × ℕ × ℕ)
rows =
    (0x7ff0000000000000, 0x7ff0000000000000, 0x7ff8000000000000)  -- both parts infinite: a NaN
    ∷ (0xfff0000000000000, 0x7ff8000000000000, 0x7ff8000000000000)  -- an infinity beside a NaN: a NaN
    ∷ (0x7ff8000000000000, 0x7ff0000000000000, 0x7ff8000000000000)
    ∷ (0x7ff0000000000000, 0x3ff0000000000000, 0x7ff0000000000000)  -- an infinity beside 1
    ∷ (0x7ff8000000000000, 0, 0)  -- a NaN beside a zero: 0
    ∷ (0x8000000000000000, 0x7ff8000000000000, 0)
    ∷ (0x7ff8000000000000, 0xbff0000000000000, 0x3ff6a09e667f3bcd)  -- a NaN beside -1: sqrt 2
    ∷ (0x4008000000000000, 0x7ff8000000000000, 0x4010f876ccdf6cda)  -- a NaN beside 3: 3 sqrt 2
    ∷ (0x7ff8000000000000, 0x7ff8000000000000, 0x7ff8000000000000)
    ∷ (0x8000000000000000, 0, 0)  -- zeros of both signs
    ∷ (0x4008000000000000, 0xc010000000000000, 0x4014000000000000)  -- 3 - 4 i
    ∷ (1, 0x8000000000000001, 1)  -- the least numbers: 1.41 of them are rounded to 1
    ∷ (0x7fefffffffffffff, 0x7fefffffffffffff, 0x7ff0000000000000)  -- the largest numbers: too large
    ∷ []

right : ℕ × ℕ × ℕ → Bool
right (a, b, m) = eqb (word (magnitude (record { re = number a; im = number b }))) m

magnitudes : T (foldr (λ r b. right r && b) true rows)
unfolding rows right magnitude min max abs negative Ieee.of_bits Ieee.to_bits Ieee.add Ieee.mul Ieee.div Ieee.sqrt Ieee.eq Ieee.lt Ieee.is_nan Ieee.size Ieee.odd
magnitudes = tt
