use Rattle.lists.proofs.Filling.{Filled}
use Rattle.complex.specs.Arithmetic.{conjugate}
use Rattle.entries.specs.Entries.{entries, entry_at}
use Rattle.density.proofs.conjugate_column.Given as goal

abbrev pub invariant-loop-j : goal.invariant-loop-j
invariant-loop-j l = Filled (λ m. conjugate (entry_at l.n (entries l.v) m l.k)) (entries l.initial.u) l.j (entries l.u)
