use Rattle.std.proofs.Common.{rules}
use Rattle.exports.proofs.Entries.{exported}
use Rattle.exports.proofs.mintshuttle_setting.Goals as goal

pub returns : goal.returns
returns c = exported _ (λ p p' q q' a e. search rules) c.told.ensures
