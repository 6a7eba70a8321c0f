-- The sum of neighbours against one direct series, ln (1 + j / 256) = 2 * artanh (j / (512 + j)), at each j of the table: the two agree to 2 ^ -1050. Computed; assumes nothing.
use Rattle.std.proofs.Common.{ℕ, zero, suc, ◌+◌, ◌*◌, ◌/◌, ◌^◌, Bool, true, ◌&&◌, T, leb}
use Rattle.rounding.specs.Units.{units_in_one}
use Rattle.logarithm.specs.Series.{nested, ln1p}

-- 2 * (z + z ^ 3 / 3 + z ^ 5 / 5 + ..), z = a / b: r terms from the i-th on, with p the power of z that the next term has
direct : ℕ → ℕ → ℕ → ℕ → ℕ → ℕ
direct zero i p a b = 0
direct (suc r) i p a b = 2 * p / (2 * i + 1) + direct r (suc i) (p * (a * a) / (b * b)) a b

-- from neighbour j on, with the sum s up to it
agree : ℕ → ℕ → ℕ → Bool
agree zero j s = true
agree (suc r) j s =
    let d = direct 345 0 (units_in_one * j / (512 + j)) j (512 + j) in
    leb s (d + 2 ^ 24) && (leb d (s + 2 ^ 24) && agree r (suc j) (s + ln1p 150 1 (256 + j)))

passes : T (agree 257 0 0)
unfolding agree direct ln1p nested
passes = tt
