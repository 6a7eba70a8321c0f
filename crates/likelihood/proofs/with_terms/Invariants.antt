use Rattle.std.proofs.Common.{◌≡◌, Ok, get_or}
use Rattle.numbers.specs.Slice.{at}
use Rattle.rounding.specs.Units.{whole}
use Rattle.likelihood.specs.Multinomial.{with_term, clamped, log_in}
use Rattle.likelihood.proofs.Loops.{weighed}
use Rattle.likelihood.proofs.with_terms.Given as goal

abbrev pub invariant-loop-k : goal.invariant-loop-k
invariant-loop-k l = weighed (λ j. with_term (log_in l.w.tables.now) l.w.deviance l.t (whole (get_or l.counts j 0)) (clamped (at l.ps j))) l.initial.sum l.k ≡ Ok l.sum
