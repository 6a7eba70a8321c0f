use Rattle.std.proofs.Common.{ℕ, ◌+◌, refl, rules, tests, arith, ◌∙◌}
use lib.Bits.{bit_or}
use Rattle.std.proofs.lemmas.Iterator.{YieldsList-from_range}
use Rattle.std.proofs.lemmas.Iterator.Consumers.{fold_from_yields_List}
use Rattle.lists.proofs.Chains.{fold-range}
use Rattle.numbers.specs.Word.{word_at}
use Rattle.model.specs.Shown.{bits_together}
use Rattle.model.proofs.bits_together.Goals as goal

pub returns : goal.returns
unfolding bits_together
returns c =
    let a = c.args in
    let h = λ (bits i : ℕ). bit_or bits (word_at a.card.now (a.from + i)) in
    fold_from_yields_List _ h 0 _ c.fold.ensures.ran (YieldsList-from_range 0 a.n a.n refl (omega arith)) (λ bits i b q k. search (rules, tests))
    ∙ fold-range h 0 a.n
