use Rattle.diagnostics.proofs.Tables.{by-logarithm}
use Rattle.diagnostics.proofs.likelihoods.Goals as goal

pub returns : goal.returns
returns g c = λ k h. by-logarithm _ _ c.new-tables.ensures _ _ _ _ _ _ (c.add_records.ensures k h)
