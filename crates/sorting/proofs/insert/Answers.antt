use Rattle.sorting.proofs.Inserting.{inserted}
use Rattle.sorting.proofs.insert.Goals as goal

pub returns : goal.returns
returns c = inserted _ _ _ _ _ _ _ _ c.requires c.number_at.ensures c.place.ensures c.unwrap_or-i.ensures c.copy_within.ensures.after
