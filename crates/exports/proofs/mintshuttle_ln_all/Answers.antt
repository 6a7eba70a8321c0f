use Rattle.std.proofs.Common.{rules}
use Rattle.logarithm.specs.Steps.{ln}
use Rattle.exports.proofs.mintshuttle_ln_all.Goals as goal

pub returns : goal.returns
returns c = c.map_all.ensures ln (λ v r e. search rules)
