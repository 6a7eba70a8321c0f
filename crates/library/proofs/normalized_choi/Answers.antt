use Rattle.std.proofs.Common.{rules}
use Rattle.library.proofs.normalized_choi.Goals as goal

pub returns : goal.returns
returns c = c.in_room.ensures _ (record { gives = λ p p' q q' r a b e. search rules })
