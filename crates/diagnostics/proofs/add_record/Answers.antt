use Rattle.std.proofs.Common.{sym, ◌∙◌, arith}
use borrow.Author.Rules.{rules}
use Rattle.diagnostics.proofs.Steps.{vectors-in, gates-lie, probabilities-are, onward-same, absent, present}
use Rattle.diagnostics.proofs.add_record.Goals as goal

pub returns-in-Err : goal.returns-in-Err
returns-in-Err g c =
    (c.refuse_all.ensures.0, λ k h. c.refuse_all.ensures.1 k (omega arith) ∙ onward-same _ _ (absent _ _ _ _ _ _ _ _ c.load_sequence.ensures _ c.in-Err.ensures) _)

pub probabilities_under-requires : goal.probabilities_under-requires
probabilities_under-requires g c =
    let s = c.args.c.now.records.now.card in
    let kept = c.requires.3 in
    (omega arith, (s.shaped.limits.dimension, s.shaped.limits.effects, c.requires.2, λ k h. vectors-in s.header _ (kept k h).0, λ k h. gates-lie _ _ _ _ _ _ (kept k h).1 (sym c.in_default.ensures)))

pub weigh_all-requires : goal.weigh_all-requires
weigh_all-requires g c = (search rules, (search rules, search rules))

pub returns : goal.returns
returns g c =
    let ok = c.in_default.ensures in (
      c.weigh_all.ensures.0,
      λ k h.
          c.weigh_all.ensures.1 k (omega arith)
          ∙ onward-same _ _ (present _ _ _ _ _ _ _ _ c.load_sequence.ensures ok _ _ c.load_counts.ensures (probabilities-are _ _ _ _ _ _ (c.requires.3 k h).1 (sym ok) _ _ _ (search rules) (c.probabilities_under.ensures k h))) _,
    )
