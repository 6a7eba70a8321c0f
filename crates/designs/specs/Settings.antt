-- The settings of a measurement of every qubit along X, Y or Z (document 01, `LocalPauliPlan::complete`), read by their index below 3^n.
use Rattle.std.specs.Prelude.{ℕ, ◌+◌, List}
use Rattle.lists.specs.Build.{build}
use Rattle.designs.specs.Digit.{digit_of}

-- the axis of each qubit: X is 1, Y is 2 and Z is 3
unfoldable pub setting_of : ℕ → ℕ → List ℕ
setting_of n index = build n (λ qubit. digit_of 3 n index qubit + 1)
