use Rattle.std.proofs.Common.{refl, sym}
use Rattle.gauge.proofs.Gauges.{parts-written}
use Rattle.gauge.proofs.Gauge.model.Goals as goal

pub returns : goal.returns
returns c =
    let t = c.args.self.now in
    parts-written t.matrix.now t.inverse.now t.card.bytes.now t.card.header _ _ _ _ c.args.work.now _ _ _ _ refl (sym c.vector_numbers-v.ensures.0) refl refl c.state.ensures c.effects.ensures refl c.gates.ensures
