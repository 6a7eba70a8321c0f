use Rattle.std.proofs.Common.{◌+◌, ◌*◌, length, drop, length-take, length-drop, refl, ap, ◌∙◌, arith, rules}
use Rattle.lists.proofs.Parts.{row_fits}
use Rattle.lists.proofs.Joined.{written_none, written-more, written-end, rest-lent}
use Rattle.model_words.specs.Words.{gate_words, gates_words}
use Rattle.model_words.proofs.Sizes.{length-gates}
use Rattle.model_words.proofs.put_gates.Goals as goal

pub loop-g-init : goal.loop-g-init
loop-g-init c = (search rules, written_none _ _)

pub put_gate-requires : goal.put_gate-requires
put_gate-requires c =
    let h = c.args.card.now.header in
    let g = c.loop-g.g in
    let m = c.square-m in (
      c.loop-g-test.true,
      simp (length-take, length-drop) (omega (arith, row_fits g h.gates m.result (length c.args.numbers.now) c.loop-g-test.true (rw m.ensures.0 c.requires.0))),
      simp (length-take, length-drop) (omega (arith, row_fits g h.gates (1 + m.result) (length c.args.res.now) c.loop-g-test.true (rw m.ensures.0 c.requires.1))),
    )

pub loop-g-preserved : goal.loop-g-preserved
loop-g-preserved c =
    let l = c.loop-g in
    let s = c.args.card.now.bytes.now in
    let h = c.args.card.now.header in
    let m = c.square-m.ensures.0 in
    (search rules, written-more (λ g. gate_words s h g (drop (g * (h.dimension * h.dimension)) c.args.numbers.now)) _ l.g _ _ l.res _ _ (length-gates _ _ _ _ ∙ rw (← m)) refl l.invariant.1 (ap (gate_words s h l.g) (rest-lent _ _ c.args.numbers.now refl ∙ rw m)) c.put_gate.ensures)

pub returns : goal.returns
unfolding gates_words
returns c = written-end _ _ _ _ _ (omega arith) c.loop-g.invariant.1
