use mathlib.Core.Path.{◌≡◌}
use lib.ListN.{get_or}
use Rattle.lists.specs.Fold.{fold}
use Rattle.entries.specs.Entries.{entries, entry_at}
use Rattle.entries.specs.Laid.{laid}
use Rattle.eigen.proofs.columns_row.Given as goal

abbrev pub invariant-loop-j : goal.invariant-loop-j
invariant-loop-j l = entries l.a ≡ fold l.j (laid l.n (λ q m. entry_at l.n (entries l.v) q (get_or l.order m 0)) l.i) (entries l.initial.a)
