use mathlib.Core.Path.{◌≡◌}
use Rattle.lists.specs.Fold.{fold}
use Rattle.entries.specs.Entries.{entries}
use Rattle.entries.specs.Laid.{changed_row}
use Rattle.density.proofs.Mixing.{term_added}
use Rattle.density.proofs.add_term.Given as goal

abbrev pub invariant-loop-i : goal.invariant-loop-i
invariant-loop-i l = entries l.out ≡ fold l.i (changed_row l.n (term_added l.n (entries l.v) l.k l.p)) (entries l.initial.out)
