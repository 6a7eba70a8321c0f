use Rattle.std.proofs.Common.{rules}
use Rattle.exports.proofs.Entries.{sheet-exported}
use Rattle.exports.proofs.mintshuttle_sheet.Goals as goal

pub returns : goal.returns
returns c = sheet-exported _ (λ p p' q q' a e. search rules) c.told.ensures
