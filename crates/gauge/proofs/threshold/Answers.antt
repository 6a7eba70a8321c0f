use Rattle.gauge.specs.Gauge.{threshold_of}
use lib.Ieee.{mul}
use mathlib.Core.Path.{refl}
use Rattle.gauge.proofs.threshold.Goals as goal

pub returns : goal.returns
unfolding mul threshold_of
returns c = refl
