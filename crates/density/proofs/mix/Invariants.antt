use mathlib.Core.Path.{◌≡◌}
use Rattle.lists.specs.Fold.{fold}
use Rattle.entries.specs.Entries.{entries}
use Rattle.density.proofs.Mixing.{terms_added}
use Rattle.density.proofs.mix.Given as goal

abbrev pub invariant-loop-k : goal.invariant-loop-k
invariant-loop-k l = entries l.out ≡ fold l.k (terms_added l.n (entries l.v) l.p) (entries l.initial.out)
