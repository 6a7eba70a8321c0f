use native.Mathlib.Omega.{arith}
use Rattle.sizes.proofs.Small.{four-shift}
use Rattle.sizes.proofs.four_to.Goals as goal

pub returns : goal.returns
returns c = let f = four-shift c.args.n c.requires in (f.0, omega arith)
