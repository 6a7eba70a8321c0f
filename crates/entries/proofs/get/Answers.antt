use mathlib.Core.Path.{sym}
use Rattle.entries.proofs.Pairs.{get-entry}
use borrow.Author.Rules.{rules}
use Rattle.entries.proofs.get.Goals as goal

pub returns : goal.returns
returns c = sym (get-entry _ _ (search rules))
