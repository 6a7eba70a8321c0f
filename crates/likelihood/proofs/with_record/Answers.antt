use Rattle.std.proofs.Common.{sym, ◌∙◌}
use Rattle.lists.proofs.Choices.{yes}
use Rattle.likelihood.specs.Multinomial.{with_record}
use Rattle.likelihood.proofs.Records.{overflows, unseen, weighed}
use Rattle.likelihood.proofs.with_record.Goals as goal

pub returns-then-fails : goal.returns-then-fails
unfolding with_record
returns-then-fails c = yes _ (sym c.fails.ensures ∙ c.if-fails.true)

pub returns-in-None : goal.returns-in-None
returns-in-None c = overflows _ _ _ _ _ _ _ (sym c.fails.ensures ∙ c.if-fails.false) c.add_counts.ensures c.in-None.is

pub returns-in-Some-eq0 : goal.returns-in-Some-eq0
returns-in-Some-eq0 c = unseen _ _ _ _ _ _ _ (sym c.fails.ensures ∙ c.if-fails.false) c.add_counts.ensures _ c.in-Some-eq0.is c.in-Some-eq0.field-0-test

pub returns-in-Some : goal.returns-in-Some
returns-in-Some c = weighed _ _ _ _ _ _ _ (sym c.fails.ensures ∙ c.if-fails.false) c.add_counts.ensures _ _ _ c.in-Some.is c.in-Some.t-test.1 c.nearest_u64_to_f64.ensures c.with_terms.ensures
