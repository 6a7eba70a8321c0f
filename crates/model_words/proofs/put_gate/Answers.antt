use Rattle.std.proofs.Common.{ℕ, ◌∷◌, refl, ap₂, arith, ◌∙◌}
use Rattle.lists.specs.Build.{over}
use Rattle.numbers.specs.Slice.{words_of}
use Rattle.numbers.proofs.Slices.{length-words}
use Rattle.model_words.specs.Words.{gate_words}
use Rattle.model_words.proofs.Sizes.{name-first}
use Rattle.model_words.proofs.put_gate.Goals as goal

pub returns : goal.returns
unfolding gate_words
returns c =
    let square = c.square-m in
    let name = c.name_of in
    name-first c.args.res.now (words_of square.result c.args.numbers.now) _ name.result _ square.result refl (omega arith) (length-words _ _) c.emit.ensures
    ∙ ap₂ (λ (n m : ℕ). over (n ∷ words_of m c.args.numbers.now) c.args.res.now) name.ensures square.ensures.0
