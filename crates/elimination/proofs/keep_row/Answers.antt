use Prim.Native.Nat.{◌+◌}
use mathlib.Core.Path.{ap}
use mathlib.Core.List.{List}
use native.Mathlib.Omega.{arith}
use lib.ListN.{set}
use lib.Ieee.{Float}
use Rattle.lists.proofs.Parts.{part-back}
use Rattle.numbers.specs.Slice.{at}
use Rattle.elimination.specs.Kept.{kept_part, kept_row}
use Rattle.elimination.proofs.keep_row.Goals as goal

pub returns : goal.returns
unfolding kept_row
returns c =
    let a = c.args in
    ap (λ (l : List Float). set l (a.k + a.n + 2) (at l (a.k + a.n + 1)))
    (part-back a.k (a.k + a.n + 2) (a.n + 2) (kept_part a.k a.pivot.now a.i) a.row.now _ (omega arith) c.keep_part.ensures)
