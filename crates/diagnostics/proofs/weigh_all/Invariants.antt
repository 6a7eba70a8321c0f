use Rattle.std.proofs.Common.{◌≡◌, length, take}
use Rattle.likelihood.specs.Multinomial.{onward, log_in, with_record}
use Rattle.gate_set.specs.Models.{row_at}
use Rattle.gate_set.proofs.Turned.{Turned}
use Rattle.diagnostics.specs.Lent.{no_sum}
use Rattle.diagnostics.proofs.weigh_all.Given as goal

abbrev pub invariant-loop-k : goal.invariant-loop-k
invariant-loop-k g l =
    Turned no_sum (λ k x y. y ≡ onward (with_record (log_in l.w.tables.now) l.w.deviance l.w.tolerance l.counts (take (length l.counts) (row_at l.ps k))) x) l.initial.sums l.k l.sums
