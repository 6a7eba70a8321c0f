use mathlib.Core.Path.{◌∙◌}
use native.Mathlib.Omega.{arith}
use Rattle.pauli.proofs.Sums.{rows_start, rows-turn, rows_all}
use Rattle.pauli.proofs.Sizes.add_string.Goals as goal

pub loop-row-init : goal.loop-row-init
loop-row-init c = rows_start _ _ _ _ _ c.args.self.side c.requires.0

pub loop-row-preserved : goal.loop-row-preserved
loop-row-preserved c = rows-turn _ _ _ _ _ _ _ _ c.args.self.side c.loop-row-test.true c.requires.1 c.requires.2 c.requires.0 c.loop-row.invariant c.add_entry.ensures

pub returns : goal.returns
returns c = c.loop-row.invariant ∙ rows_all _ _ _ _ _ (omega (arith, c.args.self.side))
