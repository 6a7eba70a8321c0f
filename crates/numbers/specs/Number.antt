-- Numbers (IEEE 754's binary64) and the words that hold them; sign, size, the larger of two, and the order of a sort, as document 01 has them.
use Rattle.std.specs.Prelude.{Bool, true, false, not, ◌&&◌, cond, ℕ, zero, suc, Float}
use Rattle.std.specs.Float.Ieee as Ieee
use Rattle.std.specs.Float.{nan, inf, fin, binary64}

-- the number that a word holds: every NaN pattern is the one NaN
abbrev pub number : ℕ → Float
number w = Ieee.of_bits binary64 w

-- the word of a number: of a NaN 7ff8000000000000
abbrev pub word : Float → ℕ
word x = Ieee.to_bits binary64 x

-- +0, -0, 1/2, 1 and 2
abbrev pub zero_f : Float
zero_f = number 0

abbrev pub minus_zero_f : Float
minus_zero_f = number 0x8000000000000000

abbrev pub half_f : Float
half_f = number 0x3fe0000000000000

abbrev pub one_f : Float
one_f = number 0x3ff0000000000000

abbrev pub two_f : Float
two_f = number 0x4000000000000000

-- Rust's operators on f64, each rounded to nearest, ties to even
infixl 20 ◌+ᶠ◌ ◌-ᶠ◌
infixl 30 ◌*ᶠ◌ ◌/ᶠ◌
abbrev pub ◌+ᶠ◌ : Float → Float → Float
x +ᶠ y = Ieee.add binary64 x y

abbrev pub ◌-ᶠ◌ : Float → Float → Float
x -ᶠ y = Ieee.sub binary64 x y

abbrev pub ◌*ᶠ◌ : Float → Float → Float
x *ᶠ y = Ieee.mul binary64 x y

abbrev pub ◌/ᶠ◌ : Float → Float → Float
x /ᶠ y = Ieee.div binary64 x y

-- neither a NaN nor an infinity
unfoldable pub finite : Float → Bool
finite nan = false
finite (inf s) = false
finite (fin s m e) = true

-- finite and above zero, as a tolerance has to be
unfoldable pub positive : Float → Bool
positive x = finite x && Ieee.lt zero_f x

-- without its sign
unfoldable pub abs : Float → Float
abs nan = nan
abs (inf s) = inf false
abs (fin s m e) = fin false m e

-- whether the sign is set; of a NaN never
unfoldable pub negative : Float → Bool
negative nan = false
negative (inf s) = s
negative (fin s m e) = s

-- the larger of two: of a NaN and another the other, of zeros of both signs the positive one
unfoldable pub max : Float → Float → Float
max x y = cond (Ieee.is_nan x) y (cond (Ieee.is_nan y) x (cond (Ieee.lt x y) y (cond (Ieee.lt y x) x (cond (negative x) y x))))

-- x comes before y in a sort: by size, -0 before +0, and a NaN, whatever its sign, after all else and beside any NaN
unfoldable pub precedes : Float → Float → Bool
precedes x y = cond (Ieee.is_nan x) false (cond (Ieee.is_nan y) true (cond (Ieee.lt x y) true (cond (Ieee.lt y x) false (negative x && not (negative y)))))

-- not -0
abbrev pub Plain : Float → Type 0
Plain nan = Unit {0}
Plain (inf s) = Unit {0}
Plain (fin false m e) = Unit {0}
Plain (fin true zero e) = ⊥
Plain (fin true (suc m) e) = Unit {0}
