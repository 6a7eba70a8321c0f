use Rattle.std.proofs.Common.{◌∙◌}
use Rattle.printing.proofs.Counts.{answer_count}
use Rattle.printing.proofs.print_sheet.Goals as goal

pub returns-in-Ok-clause-count : goal.returns-in-Ok-clause-count
returns-in-Ok-clause-count g c = rw c.in-Ok.is (c.print_answer.ensures.lines ∙ answer_count c.in-Ok.told c.args.res.now)
