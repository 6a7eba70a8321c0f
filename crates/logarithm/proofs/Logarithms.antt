-- What ln gives where it has no series, and logarithms, computed. Assumes nothing.
use Rattle.std.proofs.Common.{◌≡◌, ℕ, Bool, true, false, ◌&&◌, T, eqb, List, [], ◌∷◌, ℤ, pos, refl}
use mathlib.Core.List.{foldr}
use lib.Ieee as Ieee
use lib.Ieee.{nan, inf, fin, lt, of_bits}
use Rattle.numbers.specs.Number.{number, word, finite}
use Rattle.rounding.specs.Units.{units_of}
use Rattle.significand.specs.Significand.{significand_of, exponent_of}
use Rattle.logarithm.specs.Series.{nested, ln1p, ln_ratio, entry_of}
use Rattle.logarithm.specs.Steps.{poly, part, ln_of, ln_by, ln}

pub of-infinity : ln (inf false) ≡ inf false
unfolding ln ln_by lt finite of_bits
of-infinity = refl

pub of_nan : ln nan ≡ nan
unfolding ln ln_by lt of_bits
of_nan = refl

pub of_zero : (s : Bool) → ln (fin s 0 (pos 0)) ≡ nan
unfolding ln ln_by lt of_bits
of_zero true = refl
of_zero false = refl

pub of_negative : (m : ℕ) (e : ℤ) → ln (fin true m e) ≡ nan
unfolding ln ln_by lt of_bits
of_negative m e = refl

pub of-minus-infinity : ln (inf true) ≡ nan
unfolding ln ln_by lt of_bits
of-minus-infinity = refl

-- ---- a number and its logarithm, as words
rows : List (ℕ × ℕ)
rows =
    (0x3ff0000000000000, 0)  -- 1
    ∷ (0x4000000000000000, 0x3fe62e42fefa39ef)  -- 2
    ∷ (0x3fe0000000000000, 0xbfe62e42fefa39ef)  -- 1/2
    ∷ (0x4005bf0a8b145769, 0x3ff0000000000000)  -- the number nearest e
    ∷ (0x3fefffffffffffff, 0xbca0000000000000)  -- just below 1
    ∷ (1, 0xc0874385446d71c3)  -- the least number
    ∷ (0x7fefffffffffffff, 0x40862e42fefa39ef)  -- the largest
    ∷ []

right : ℕ × ℕ → Bool
right (x, l) = eqb (word (ln (number x))) l

logarithms : T (foldr (λ r b. right r && b) true rows)
unfolding rows right ln ln_by ln_of part poly entry_of ln_ratio ln1p nested significand_of exponent_of units_of lt finite of_bits Ieee.to_bits Ieee.of_int Ieee.add Ieee.sub Ieee.mul Ieee.div Ieee.size
logarithms = tt
