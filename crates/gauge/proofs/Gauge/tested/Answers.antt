use Rattle.std.proofs.Common.{sym, ap, ◌∙◌}
use Rattle.lists.proofs.Parts.{front-again}
use Rattle.refusal.specs.Verdicts.{finite_or}
use Rattle.refusal.specs.declared.Refusal.TheVariants.{NonFinite}
use Rattle.gauge.specs.Gauge.{transformed}
use Rattle.gauge.proofs.Lengths.{transformed-length}
use Rattle.gauge.proofs.Gauge.tested.Goals as goal

pub returns : goal.returns
returns c =
    let t = c.args.self.now in
    let n = transformed-length _ _ _ _ ∙ sym c.model_numbers-count.ensures.0 in
    (c.finite_or.ensures ∙ ap (finite_or NonFinite) (front-again (transformed t.matrix.now t.inverse.now t.card.bytes.now t.card.header) _ c.model.ensures n), c.model.ensures)
