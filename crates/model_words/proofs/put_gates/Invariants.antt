use Rattle.std.proofs.Common.{◌≡◌, ◌*◌, length, drop}
use Rattle.lists.proofs.Joined.{Written}
use Rattle.model_words.specs.Words.{gate_words}
use Rattle.model_words.proofs.put_gates.Given as goal

abbrev pub invariant-loop-g : goal.invariant-loop-g
invariant-loop-g l =
    let h = l.card.header in
    (length l.res ≡ length l.initial.res)
    × Written (λ j. gate_words l.card.bytes.now h j (drop (j * (h.dimension * h.dimension)) l.numbers)) l.initial.res l.g l.res
