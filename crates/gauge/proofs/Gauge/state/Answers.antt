use Rattle.std.proofs.Common.{refl}
use Rattle.lists.proofs.Parts.{front-again}
use Rattle.matrix.specs.Product.{mat_vec_of}
use Rattle.card_parts.specs.Model.{state_of}
use Rattle.gauge.specs.Gauge.{new_state}
use Rattle.gauge.proofs.Lengths.{length-state, state-in-length}
use Rattle.gauge.proofs.Gauges.{put_under}
use Rattle.gauge.proofs.Gauge.state.Goals as goal

pub returns : goal.returns
unfolding new_state
returns c =
    let t = c.args.self.now in
    let s = t.card.bytes.now in
    let h = t.card.header in
    put_under (mat_vec_of h.dimension t.matrix.now) c.args.out.now (state-in-length _ _ _ t.matrix.now) (front-again (state_of s h) _ c.load_state.ensures (length-state _ _)) refl c.mat_vec.ensures
