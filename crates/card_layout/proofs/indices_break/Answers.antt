use Rattle.std.proofs.Common.{rules, refl}
use Rattle.card_layout.proofs.Indices.{shifted-pos, indices-none, indices-some}
use Rattle.card_layout.proofs.indices_break.Goals as goal

pub returns-then-used-eq0 : goal.returns-then-used-eq0
returns-then-used-eq0 c =
    indices-none c.args.len c.args.j c.args.w _ (search rules) c.used_in-used.ensures c.if-used-eq0.true

pub nonzero_rem-result : goal.nonzero_rem-result
nonzero_rem-result c = shifted-pos _ (search rules)

pub returns : goal.returns
returns c =
    let used-in = c.used_in-used in
    indices-some c.args.len c.args.j c.args.w used-in.result _ used-in.ensures c.if-used-eq0.false refl
