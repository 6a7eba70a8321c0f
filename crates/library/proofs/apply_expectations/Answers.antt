use Rattle.std.proofs.Common.{rules}
use Rattle.library.proofs.apply_expectations.Goals as goal

pub returns : goal.returns
returns c = c.in_room.ensures _ (record { gives = λ p p' q q' r a b e. search rules })
