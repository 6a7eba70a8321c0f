use native.Mathlib.Omega.{arith}
use Rattle.lists.proofs.Folding.{fold-none}
use borrow.Author.Rules.{rules}
use Rattle.gate_set.proofs.Sequences.{gate-present, gate-missing, all-present}
use Rattle.gate_set.proofs.check_sequence.Goals as goal

pub loop-g-init : goal.loop-g-init
loop-g-init c = fold-none _ _

pub returns-then-gates-g : goal.returns-then-gates-g
returns-then-gates-g c = gate-missing c.args.gates c.args.sequence.now c.loop-g.g-index (search rules) (search rules) c.loop-g.invariant

pub loop-g-preserved : goal.loop-g-preserved
loop-g-preserved c = gate-present c.args.gates c.args.sequence.now c.loop-g.g-index (search rules) c.loop-g.invariant

pub returns : goal.returns
returns c = all-present c.args.gates c.args.sequence.now c.loop-g.g-index (omega arith) c.loop-g.invariant
