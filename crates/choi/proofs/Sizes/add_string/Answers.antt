use native.Mathlib.Omega.{arith}
use Rattle.choi.proofs.Steps.{string-is}
use Rattle.choi.proofs.Sizes.add_string.Goals as goal

pub returns : goal.returns
returns c = string-is _ _ _ _ c.loop-a.a _ _ c.args.self.sides.strings (omega arith) c.loop-a.invariant
