use Rattle.std.proofs.Common.{◌≡◌, length}
use Rattle.lists.proofs.Joined.{Written}
use Rattle.gauge.specs.Gauge.{new_effect}
use Rattle.gauge.proofs.Gauge.effects.Given as goal

abbrev pub invariant-loop-k : goal.invariant-loop-k
invariant-loop-k l =
    (length l.out ≡ length l.initial.out)
    × Written (new_effect l.self.inverse.now l.self.card.bytes.now l.self.card.header) l.initial.out l.k l.out
