use Rattle.std.proofs.Common.{List, ◌*◌, drop, sym, ap, ◌∙◌}
use lib.Ieee.{Float}
use lib.Seq.{drop_at}
use Rattle.lists.proofs.Parts.{front-again}
use Rattle.matrix.specs.Product.{mat_mul_of}
use Rattle.matrix.proofs.Sums.{length-mat-mul}
use Rattle.card_parts.specs.Model.{gate_of}
use Rattle.model_words.proofs.Sizes.{length-gate-numbers}
use Rattle.gauge.specs.Gauge.{new_gate}
use Rattle.gauge.proofs.Lengths.{gate-in-length}
use Rattle.gauge.proofs.Gauges.{put_under}
use Rattle.gauge.proofs.Gauge.gate.Goals as goal

pub returns : goal.returns
unfolding new_gate
returns c =
    let t = c.args.self.now in
    let d = t.card.header.dimension in
    let g = gate_of t.card.bytes.now t.card.header c.args.g in
    let m = c.square-m.ensures.0 in
    let a = front-again g _ c.load_gate.ensures (length-gate-numbers _ _ _ ∙ sym m) in
    let b = front-again (mat_mul_of d t.matrix.now _) _ c.mat_mul.ensures (length-mat-mul d t.matrix.now _ ∙ sym m) in
    let e = ap (drop (d * d)) c.load_gate.ensures ∙ drop_at g (drop (d * d) c.args.out.now) (d * d) (length-gate-numbers _ _ _) in
    put_under (λ (x : List Float). mat_mul_of d x t.inverse.now) c.args.out.now (gate-in-length _ _ t.matrix.now t.inverse.now _) (b ∙ ap (mat_mul_of d t.matrix.now) a) e c.mat_mul-2.ensures
