use Rattle.designs.proofs.Digits.{entry}
use Rattle.designs.proofs.local.Goals as goal

pub returns : goal.returns
returns c = entry _ _ c.requires.0 c.requires.1
