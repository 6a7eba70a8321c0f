use native.Mathlib.Omega.{arith}
use Rattle.lists.proofs.Folding.{fold_more}
use Rattle.entries.specs.Entries.{entries}
use Rattle.entries.proofs.Pairs.{length-entries}
use Rattle.density.proofs.Mixing.{row-added, term-added}
use Rattle.density.proofs.add_term.Goals as goal

pub loop-i-preserved : goal.loop-i-preserved
loop-i-preserved c =
    let l = c.loop-i in
    let s = c.args in
    fold_more _ _ _ _ _ l.invariant (row-added s.n (entries s.v.now) s.k s.p _ l.i _ _ (entries l.out) _ c.conjugate_column.ensures c.read.ensures c.mul.ensures c.add_row.ensures)

pub returns : goal.returns
returns c = term-added _ _ _ _ _ _ _ (omega arith) (length-entries _ _ c.requires.2) c.loop-i.invariant
