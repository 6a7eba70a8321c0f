use Rattle.pauli.proofs.Sums.{Strings}
use Rattle.pauli.proofs.Sizes.density.Given as goal

abbrev pub invariant-loop-code : goal.invariant-loop-code
invariant-loop-code l = Strings l.self.n l.es l.code l.out
