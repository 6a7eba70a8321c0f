-- Arithmetic of complex numbers, by parts, as document 01 has it. Each operation on parts is rounded.
use Rattle.std.specs.Prelude.{cond, Float}
use Rattle.std.specs.Float.Ieee as Ieee
use Rattle.numbers.specs.Number.{◌+ᶠ◌, ◌-ᶠ◌, ◌*ᶠ◌, ◌/ᶠ◌, abs, max, zero_f, one_f}
use Rattle.root.specs.Root.{sqrt}
use Rattle.complex.specs.declared.Complex.{Complex}

unfoldable pub plus : Complex → Complex → Complex
plus x y = record { re = x.re +ᶠ y.re; im = x.im +ᶠ y.im }

unfoldable pub minus : Complex → Complex → Complex
minus x y = record { re = x.re -ᶠ y.re; im = x.im -ᶠ y.im }

-- (ac - bd, ad + bc)
unfoldable pub times : Complex → Complex → Complex
times x y = record { re = x.re *ᶠ y.re -ᶠ x.im *ᶠ y.im; im = x.re *ᶠ y.im +ᶠ x.im *ᶠ y.re }

-- by a real number
unfoldable pub scaled : Complex → Float → Complex
scaled x c = record { re = x.re *ᶠ c; im = x.im *ᶠ c }

unfoldable pub divided : Complex → Float → Complex
divided x c = record { re = x.re /ᶠ c; im = x.im /ᶠ c }

unfoldable pub conjugate : Complex → Complex
conjugate x = record { re = x.re; im = Ieee.neg x.im }

-- the smaller of two: of a NaN and another the other
unfoldable pub min : Float → Float → Float
min x y = cond (Ieee.is_nan x) y (cond (Ieee.is_nan y) x (cond (Ieee.lt y x) y x))

-- m·sqrt(1 + (s/m)²), where m is the size of the larger part and s that of the smaller one; 0 where m is 0
unfoldable pub magnitude : Complex → Float
magnitude z =
    let m = max (abs z.re) (abs z.im) in
    let q = min (abs z.re) (abs z.im) /ᶠ m in
    cond (Ieee.eq m zero_f) zero_f (m *ᶠ sqrt (one_f +ᶠ q *ᶠ q))

-- of the parts x and y
abbrev pub magnitude_by : Float → Float → Float
magnitude_by x y = magnitude (record { re = x; im = y })
