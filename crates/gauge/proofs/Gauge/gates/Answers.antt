use Rattle.std.proofs.Common.{ℕ, ◌*◌, length, length-take, length-drop, refl, sym, ap, ◌∙◌, arith, rules}
use Rattle.sizes.proofs.Small.{square-most}
use Rattle.lists.proofs.Joined.{written_none, written-more}
use Rattle.lists.proofs.Parts.{row_fits}
use Rattle.gauge.specs.Gauge.{new_gate}
use Rattle.gauge.proofs.Lengths.{gates-length}
use Rattle.gauge.proofs.Gauge.gates.Goals as goal

pub loop-g-init : goal.loop-g-init
loop-g-init c = (search rules, written_none _ _)

pub gate-requires : goal.gate-requires
gate-requires c =
    let h = c.args.self.now.card.header in
    let m = c.square-m in (
      c.loop-g-test.true,
      omega (arith, square-most h.dimension c.args.self.now.card.shaped.limits.dimension),
      simp (length-take, length-drop) (omega (arith, row_fits c.loop-g.g h.gates m.result (length c.args.out.now) c.loop-g-test.true (rw m.ensures.0 c.requires))),
    )

pub loop-g-preserved : goal.loop-g-preserved
loop-g-preserved c =
    let l = c.loop-g in
    let t = c.args.self.now in
    (search rules, written-more (new_gate t.matrix.now t.inverse.now t.card.bytes.now t.card.header) _ l.g _ _ l.out _ _ (gates-length _ _ t.matrix.now t.inverse.now _ ∙ ap (λ (m : ℕ). l.g * m) (sym c.square-m.ensures.0)) refl l.invariant.1 refl c.gate.ensures)
