use native.Mathlib.Omega.{arith}
use Rattle.choi.proofs.Steps.{row_is}
use Rattle.choi.proofs.Sizes.add_row.Goals as goal

pub returns : goal.returns
returns c =
    let f = c.filled_of-f.ensures in
    row_is _ _ _ _ _ _ _ _ _ c.loop-r.r _ f.0 f.1 c.share_of-w.ensures (omega (arith, c.args.self.sides.side)) c.loop-r.invariant
