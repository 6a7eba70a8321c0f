use Rattle.std.proofs.Common.{refl}
use lib.Ieee.{of_bits, of_int}
use Rattle.logarithm.specs.Series.{nested, ln1p}
use Rattle.logarithm.proofs.Test.{tabled}
use Rattle.logarithm.proofs.LnTables.new.Goals as goal

pub returns : goal.returns
unfolding ln1p nested of_bits of_int
returns c = tabled _ _ tt refl refl refl refl
