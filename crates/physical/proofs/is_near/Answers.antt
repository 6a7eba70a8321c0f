use Rattle.physical.specs.Physical.{near}
use lib.Ieee.{Float, le}
use mathlib.Core.Path.{ap}
use Rattle.physical.proofs.is_near.Goals as goal

pub returns : goal.returns
unfolding near
returns c = ap (λ (x : Float). le x c.args.tolerance) c.abs_of.ensures
