-- ln in the steps of document 01, each operation rounded.
use Rattle.std.specs.Prelude.{ℕ, ◌-◌, ◌/◌, ◌%◌, ◌^◌, cond, Float}
use Rattle.std.specs.Float.{nan}
use Rattle.std.specs.Float.Ieee.{lt}
use Rattle.numbers.specs.Number.{◌+ᶠ◌, ◌-ᶠ◌, ◌*ᶠ◌, ◌/ᶠ◌, finite, zero_f}
use Rattle.rounding.specs.Units.{whole}
use Rattle.significand.specs.Significand.{significand_of, exponent_of}
use Rattle.logarithm.specs.Series.{entry_of}

-- the number nearest 1 / i
abbrev pub inverse : ℕ → Float
inverse i = whole 1 /ᶠ whole i

-- t - t·t·(1/2 - t·(1/3 - t·(1/4 - t·(1/5 - t/6))))
unfoldable pub poly : Float → Float
poly t = t -ᶠ t *ᶠ t *ᶠ (inverse 2 -ᶠ t *ᶠ (inverse 3 -ᶠ t *ᶠ (inverse 4 -ᶠ t *ᶠ (inverse 5 -ᶠ t /ᶠ whole 6))))

-- e·(entry 256) plus (entry j), over 2 ^ k: hi and lo
unfoldable pub part : Float → Float → Float → ℕ → Float
part e two entry k = (e *ᶠ two +ᶠ entry) /ᶠ whole (2 ^ k)

-- ln of M·2 ^ (e - 52), from quotient and remainder by 2 ^ 27 of each entry of the table; n is e + 1074
unfoldable pub ln_of : (ℕ → Float) → (ℕ → Float) → ℕ → ℕ → Float
ln_of quotient remainder m n =
    let c = m / 2 ^ 44 in
    let e = whole n -ᶠ whole 1074 in
    let hi = part e (quotient 256) (quotient (c - 256)) 43 in
    let lo = part e (remainder 256) (remainder (c - 256)) 70 in
    let t = whole (m % 2 ^ 44) /ᶠ (whole c *ᶠ whole (2 ^ 44)) in
    hi +ᶠ (lo +ᶠ poly t)

-- ln(+infinity) is itself; of a NaN, of a zero and of what is less it is a NaN
unfoldable pub ln_by : (ℕ → Float) → (ℕ → Float) → Float → Float
ln_by quotient remainder x = cond (lt zero_f x) (cond (finite x) (ln_of quotient remainder (significand_of x) (exponent_of x)) x) nan

-- W[j] as quotient and remainder
abbrev pub quotient_of : ℕ → ℕ
quotient_of j = entry_of j / 2 ^ 27

abbrev pub remainder_of : ℕ → ℕ
remainder_of j = entry_of j % 2 ^ 27

-- both as numbers
abbrev pub quotient_f : ℕ → Float
quotient_f j = whole (quotient_of j)

abbrev pub remainder_f : ℕ → Float
remainder_f j = whole (remainder_of j)

-- the natural logarithm
unfoldable pub ln : Float → Float
ln x = ln_by quotient_f remainder_f x
