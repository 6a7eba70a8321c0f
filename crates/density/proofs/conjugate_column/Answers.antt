use native.Mathlib.Omega.{arith}
use Rattle.lists.proofs.Filling.{fill_none}
use Rattle.entries.specs.Entries.{entries}
use Rattle.entries.proofs.Pairs.{length-entries}
use Rattle.density.proofs.Mixing.{column-more, column-all}
use Rattle.density.proofs.conjugate_column.Goals as goal

pub loop-j-init : goal.loop-j-init
loop-j-init c = fill_none _ _

pub loop-j-preserved : goal.loop-j-preserved
loop-j-preserved c =
    column-more c.args.n (entries c.args.v.now) c.args.k _ _ _ _ _ _ (omega (arith, length-entries c.args.n c.args.u.now c.requires.1)) c.loop-j.invariant c.read.ensures c.conjugate.ensures c.put.ensures

pub returns : goal.returns
returns c = column-all _ _ _ _ _ _ (omega arith) (length-entries _ _ c.requires.1) c.loop-j.invariant
