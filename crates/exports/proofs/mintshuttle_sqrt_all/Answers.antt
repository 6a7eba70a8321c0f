use Rattle.std.proofs.Common.{rules}
use Rattle.root.specs.Root.{sqrt}
use Rattle.exports.proofs.mintshuttle_sqrt_all.Goals as goal

pub returns : goal.returns
returns c = c.map_all.ensures sqrt (λ v r e. search rules)
