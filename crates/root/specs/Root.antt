-- The square root of a number: IEEE 754's squareRoot, rounded once, to nearest with ties to even, as the language defines it.
-- specs/Nearest.antt says in the words of real numbers what it is.
use Rattle.std.specs.Prelude.{Float}
use Rattle.std.specs.Float.{binary64}
use Rattle.std.specs.Float.Ieee as Ieee

abbrev pub sqrt : Float → Float
sqrt x = Ieee.sqrt binary64 x
