use mathlib.Core.Path.{refl, sym, ◌∙◌}
use Rattle.lists.proofs.Choices.{no}
use Rattle.descent.specs.Fit.{evaluate}
use Rattle.evaluation.proofs.Scores.{evaluate-by}
use Rattle.evaluation.proofs.evaluate.Goals as goal

pub returns-then-not-all_finite : goal.returns-then-not-all_finite
unfolding evaluate
returns-then-not-all_finite c = no _ (sym c.all_finite.ensures ∙ c.if-not-all_finite.true) refl

pub returns : goal.returns
returns c =
    let t = c.args.t.now in
    evaluate-by t.records.now.card.bytes.now t.records.now.card.header t.places.now t.config c.args.xs.now _ _ _ (sym c.all_finite.ensures ∙ c.if-not-all_finite.false) refl c.likelihood_at.ensures.1 c.score.ensures
