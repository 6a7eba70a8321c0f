use Rattle.std.proofs.Common.{List, refl}
use lib.Ieee.{Float}
use Rattle.lists.proofs.Parts.{front-again}
use Rattle.matrix.specs.Product.{row_mat_of}
use Rattle.card_parts.specs.Model.{effect_of}
use Rattle.gauge.specs.Gauge.{new_effect}
use Rattle.gauge.proofs.Lengths.{length-effect, effect-in-length}
use Rattle.gauge.proofs.Gauges.{put_under}
use Rattle.gauge.proofs.Gauge.effect.Goals as goal

pub returns : goal.returns
unfolding new_effect
returns c =
    let t = c.args.self.now in
    let s = t.card.bytes.now in
    let h = t.card.header in
    put_under (λ (x : List Float). row_mat_of h.dimension x t.inverse.now) c.args.out.now (effect-in-length _ _ t.inverse.now _ _) (front-again (effect_of s h c.args.k) _ c.load_effect.ensures (length-effect _ _ _)) refl c.row_mat.ensures
