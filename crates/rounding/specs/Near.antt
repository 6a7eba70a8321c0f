-- How far a number is from a known one. Distances are whole numbers, mostly of units (specs/Units.antt).
use Rattle.std.specs.Prelude.{◌≡◌, ℕ, ◌+◌, ◌≤◌, Bool, true, false, Float}
use Rattle.std.specs.Float.Ieee.Exact.{HasValue}
use Rattle.rounding.specs.Units.{units_in_one}

-- x and y differ by d at most
pub record Within (d x y : ℕ) : Type 0 where
  pub over : x ≤ y + d
  pub under : y ≤ x + d

-- A number of v units, negative where s is true, is `plus_part s v` less `minus_part s v`.
abbrev pub plus_part : Bool → ℕ → ℕ
plus_part false v = v
plus_part true v = 0

abbrev pub minus_part : Bool → ℕ → ℕ
minus_part false v = 0
minus_part true v = v

-- x is finite, and within d units of p - n: it is `count` units, negative where `sign` is true
pub record Near (d : ℕ) (x : Float) (p n : ℕ) : Type 0 where
  pub sign : Bool
  pub count : ℕ
  pub value : HasValue x sign count units_in_one
  pub close : Within d (plus_part sign count + n) (minus_part sign count + p)

-- x is exactly the whole number p - n
pub record Is (x : Float) (p n : ℕ) : Type 0 where
  pub sign : Bool
  pub count : ℕ
  pub value : HasValue x sign count 1
  pub exact : plus_part sign count + n ≡ minus_part sign count + p
