use Rattle.std.proofs.Common.{ℕ, ◌*◌, refl, sym, ap, ◌∙◌, rules}
use Rattle.lists.proofs.Joined.{written_none, written-more}
use Rattle.lists.proofs.Parts.{over-front}
use Rattle.card_parts.specs.Model.{gate_of}
use Rattle.model_words.proofs.Sizes.{length-gate-numbers, length-gates-numbers}
use Rattle.model_words.proofs.load_gates.Goals as goal

pub loop-g-init : goal.loop-g-init
loop-g-init c = (search rules, written_none _ _)

pub loop-g-preserved : goal.loop-g-preserved
loop-g-preserved c =
    let m = c.args.card.now in
    let l = c.loop-g in
    let f = gate_of m.bytes.now m.header in
    (search rules, written-more f _ l.g _ _ l.out _ _ (length-gates-numbers m.bytes.now m.header l.g ∙ ap (λ (m : ℕ). l.g * m) (sym c.square-m.ensures.0)) refl l.invariant.1 refl (over-front (f l.g) _ (length-gate-numbers m.bytes.now m.header l.g) c.load_gate.ensures))
