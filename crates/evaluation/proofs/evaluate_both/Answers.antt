use mathlib.Core.Path.{refl, sym, ap₂, ◌∙◌}
use mathlib.Core.List.{[], ◌∷◌}
use Rattle.descent.specs.Fit.{Evaluated}
use Rattle.evaluation.proofs.Scores.{evaluate-by, first_of_two, second_of_two}
use Rattle.evaluation.proofs.evaluate_both.Goals as goal

pub returns-then-all_finite-2 : goal.returns-then-all_finite-2
returns-then-all_finite-2 c =
    let t = c.args.t.now in
    let b = c.likelihoods_at.ensures in
    ap₂ (λ (r l : Evaluated). r ∷ (l ∷ []))
    (evaluate-by t.records.now.card.bytes.now t.records.now.card.header t.places.now t.config c.args.xs.now _ _ _ (sym c.all_finite.ensures ∙ c.if-all_finite.true) refl (first_of_two _ _ _ _ b) c.score.ensures)
    (evaluate-by t.records.now.card.bytes.now t.records.now.card.header t.places.now t.config c.args.ys.now _ _ _ (sym c.all_finite-then-all_finite.ensures ∙ c.if-all_finite-2.true) refl (second_of_two _ _ _ _ b) c.score-then-all_finite-2.ensures)
