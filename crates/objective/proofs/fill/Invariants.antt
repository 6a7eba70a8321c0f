use mathlib.Core.Path.{◌≡◌}
use Rattle.lists.specs.Fold.{fold}
use Rattle.objective.proofs.Puts.{put_one}
use Rattle.objective.proofs.fill.Given as goal

abbrev pub invariant-loop-i : goal.invariant-loop-i
invariant-loop-i l = l.model ≡ fold l.i (put_one l.places l.xs) l.initial.model
