use mathlib.Core.Path.{ap}
use native.Mathlib.Omega.{arith}
use Rattle.lists.proofs.Filling.{fill_none, fill_more}
use Rattle.complex.specs.declared.Complex.{Complex}
use Rattle.eigen.specs.Jacobi.{diagonal}
use Rattle.eigen.proofs.Running.{filled-all}
use borrow.Author.Rules.{rules}
use Rattle.eigen.proofs.diagonal.Goals as goal

pub loop-k-init : goal.loop-k-init
loop-k-init c = fill_none _ _

pub loop-k-preserved : goal.loop-k-preserved
loop-k-preserved c = fill_more _ _ _ _ _ (search rules) c.loop-k.invariant (ap (λ (z : Complex). z.re) c.read.ensures)

pub returns : goal.returns
unfolding diagonal
returns c = filled-all _ _ _ _ _ (omega arith) c.requires.1 c.loop-k.invariant
