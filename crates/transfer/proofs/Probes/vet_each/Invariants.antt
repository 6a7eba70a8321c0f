use Rattle.std.proofs.Common.{◌≡◌, ◌*◌, ◌≤◌, length}
use Rattle.std.specs.Slice.Iter.{chunks_exact_rest, chunks_exact_size}
use Rattle.refusal.specs.Verdicts.{good}
use Rattle.refusal.proofs.Verdicts.{tested}
use Rattle.pauli.specs.Density.{vet_of}
use Rattle.transfer.specs.Vectors.{vector_of}
use Rattle.transfer.proofs.Vectors.{from}
use Rattle.transfer.proofs.Probes.vet_each.Given as goal

abbrev pub invariant-loop-v : goal.invariant-loop-v
invariant-loop-v l =
    (tested (λ k. vet_of l.self.tolerance (vector_of l.self.vectors.now l.p k)) (length l.yielded) ≡ good) × (length l.yielded ≤ 2 * l.p)
    × (chunks_exact_rest l.v-iterator ≡ from l.self.vectors.now l.p (length l.yielded)) × (chunks_exact_size l.v-iterator ≡ l.p)
