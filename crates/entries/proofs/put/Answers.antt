use Rattle.entries.proofs.Pairs.{set-entry}
use borrow.Author.Rules.{rules}
use Rattle.entries.proofs.put.Goals as goal

pub returns : goal.returns
returns c = set-entry _ _ _ (search rules)
