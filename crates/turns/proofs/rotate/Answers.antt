use mathlib.Core.Path.{◌∙◌}
use native.Mathlib.Omega.{arith}
use Rattle.lists.proofs.Folding.{fold_end}
use Rattle.entries.proofs.Pairs.{length-entries}
use Rattle.turns.proofs.Whole.{rotate-whole}
use Rattle.turns.proofs.rotate.Goals as goal

pub returns : goal.returns
returns c =
    c.cross.ensures
    ∙ rotate-whole _ _ c.requires.1 c.requires.2 _ (length-entries _ _ c.requires.0) _ (fold_end _ _ _ _ _ (omega arith) c.loop-i.invariant)
