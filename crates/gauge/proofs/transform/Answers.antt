use Rattle.std.proofs.Common.{List, sym, ap, ◌∙◌}
use Rattle.refusal.proofs.Verdicts.{passed_on}
use lib.Ieee.{Float}
use Rattle.lists.specs.Build.{over}
use Rattle.lists.proofs.Parts.{front-again}
use Rattle.card_parts.specs.Model.{transform_of}
use Rattle.gauge.specs.Gauge.{inverted_of, inverse_in}
use Rattle.gauge.proofs.Lengths.{length-transform}
use Rattle.gauge.proofs.Gauges.{inverse-length, transform-refused, transform-good}
use Rattle.gauge.proofs.transform.Goals as goal

pub returns-in_err-invert_transform : goal.returns-in_err-invert_transform
returns-in_err-invert_transform c =
    let s = c.args.card.now.bytes.now in
    let h = c.args.card.now.header in
    let t = front-again (transform_of s h) _ c.load_transform.ensures (length-transform _ _ ∙ sym c.square-m.ensures.0) in
    let r = transform-refused s h _ _ (c.invert_transform.ensures.0 ∙ ap (inverted_of h.dimension) t) c.in_err-invert_transform.was in
    (passed_on c.from_residual.ensures.1 r.0, ap (λ (x : List Float). over x c.args.work.now) r.1)

pub returns : goal.returns
returns c =
    let s = c.args.card.now.bytes.now in
    let h = c.args.card.now.header in
    let d = h.dimension in
    let m = c.square-m.ensures.0 in
    let v = c.invert_transform.ensures in
    let t = front-again (transform_of s h) _ c.load_transform.ensures (length-transform _ _ ∙ sym m) in
    let g = c.in_ok-invert_transform.was in
    let i = front-again (inverse_in d _) _ v.1 (inverse-length _ _ (sym g ∙ v.0) ∙ sym m) ∙ ap (inverse_in d) t in
    transform-good s h _ _ t i _ _ _ _ (v.0 ∙ ap (inverted_of d) t) g c.tested.ensures.0 c.tested.ensures.1
