use Rattle.std.proofs.Common.{◌≡◌, length}
use Rattle.lists.proofs.Joined.{Written}
use Rattle.gauge.specs.Gauge.{new_gate}
use Rattle.gauge.proofs.Gauge.gates.Given as goal

abbrev pub invariant-loop-g : goal.invariant-loop-g
invariant-loop-g l =
    (length l.out ≡ length l.initial.out)
    × Written (new_gate l.self.matrix.now l.self.inverse.now l.self.card.bytes.now l.self.card.header) l.initial.out l.g l.out
