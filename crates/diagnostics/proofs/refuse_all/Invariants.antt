use Rattle.std.proofs.Common.{◌≡◌, Err}
use Rattle.likelihood.specs.declared.Unfit.TheVariants.{Refused}
use Rattle.likelihood.specs.Multinomial.{onward}
use Rattle.gate_set.proofs.Turned.{Turned}
use Rattle.diagnostics.specs.Lent.{no_sum}
use Rattle.diagnostics.proofs.refuse_all.Given as goal

abbrev pub invariant-loop-l : goal.invariant-loop-l
invariant-loop-l g l = Turned no_sum (λ k x y. y ≡ onward (λ _. Err (Refused l.x)) x) l.initial.sums l.l-index l.sums
