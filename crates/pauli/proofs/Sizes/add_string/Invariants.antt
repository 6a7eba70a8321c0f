use mathlib.Core.Path.{◌≡◌}
use Rattle.pauli.proofs.Sums.{rows}
use Rattle.pauli.proofs.Sizes.add_string.Given as goal

abbrev pub invariant-loop-row : goal.invariant-loop-row
invariant-loop-row l = l.out ≡ rows l.self.n l.code l.w l.initial.out l.row
