use mathlib.Core.Bool.{true}
use Rattle.lists.specs.Fold.{fold}
use Rattle.inversion.specs.Inversion.{beside_identity, rows, column_reduced}
use Rattle.inversion.specs.Held.{Held}
use Rattle.inversion.proofs.Kept.reduce.Given as goal

abbrev pub invariant-loop-k : goal.invariant-loop-k
invariant-loop-k l =
    let n = l.initial.self.n in
    Held n l.k true l.self (fold l.k (column_reduced n l.limit) (rows (beside_identity n l.a)))
