-- What holds of ln and of its tables, against the series at every number of terms from 12 on.
use Rattle.std.specs.Prelude.{◌≡◌, ℕ, ◌+◌, ◌-◌, ◌*◌, ◌^◌, ◌<◌, ◌≤◌, true, List, Float}
use Rattle.std.specs.Float.Ieee.{lt, le}
use Rattle.lists.specs.Build.{build}
use Rattle.numbers.specs.Number.{finite, zero_f, half_f, two_f}
use Rattle.rounding.specs.Near.{Within, Near}
use Rattle.logarithm.specs.Series.{ln_entry, ln_plus, ln_minus}
use Rattle.logarithm.specs.Steps.{quotient_of, remainder_of, quotient_f, remainder_f}

-- w is the whole number nearest 2 ^ 70 * ln (1 + j / 256): within less than a half, which is 2 ^ 1003 units
pub record NearestEntry (j w : ℕ) : Type 0 where
  pub near : (k : ℕ) → 12 ≤ k → Within (2 ^ 1003 - 2 ^ 993) (ln_entry k j) (w * 2 ^ 1004)

-- the two tables
pub record Tabled (q r : List Float) : Type 0 where
  pub quotients : q ≡ build 257 quotient_f
  pub remainders : r ≡ build 257 remainder_f
  pub nearest : (j : ℕ) → j < 257 → NearestEntry j (quotient_of j * 2 ^ 27 + remainder_of j)

-- r is within d units of the logarithm of x
pub record LnNear (d : ℕ) (x r : Float) : Type 0 where
  pub near : (k : ℕ) → 12 ≤ k → Near d r (ln_plus k x) (ln_minus k)

-- The error of r as the logarithm of x: at most 2 ^ -41 for a finite x above zero, at most 2 ^ -49 for an x from 1/2 to 2. Of the limit of the series, which is within
-- 2 ^ 22 units of the logarithm, the error is then below 2 ^ -40 and below 2 ^ -48, as document 01 has it.
pub record LnError (x r : Float) : Type 0 where
  pub everywhere : finite x ≡ true → lt zero_f x ≡ true → LnNear (2 ^ 1033) x r
  pub between : le half_f x ≡ true → le x two_f ≡ true → LnNear (2 ^ 1025) x r
