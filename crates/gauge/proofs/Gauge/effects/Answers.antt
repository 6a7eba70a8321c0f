use Rattle.std.proofs.Common.{refl, rules}
use Rattle.lists.proofs.Joined.{written_none, written-more}
use Rattle.gauge.specs.Gauge.{new_effect}
use Rattle.gauge.proofs.Lengths.{effects-length}
use Rattle.gauge.proofs.Gauge.effects.Goals as goal

pub loop-k-init : goal.loop-k-init
loop-k-init c = (search rules, written_none _ _)

pub loop-k-preserved : goal.loop-k-preserved
loop-k-preserved c =
    let l = c.loop-k in
    let t = c.args.self.now in
    (search rules, written-more (new_effect t.inverse.now t.card.bytes.now t.card.header) _ l.k _ _ l.out _ _ (effects-length _ _ t.inverse.now _ _) refl l.invariant.1 refl c.effect.ensures)
