use Rattle.eigen.proofs.Running.{turn-place}
use Rattle.eigen.proofs.step.Goals as goal

pub rotate-requires : goal.rotate-requires
rotate-requires c = let h = turn-place _ _ _ _ c.turn_of-t.ensures c.requires.3 c.requires.4 in (c.requires.0, h.0, h.1)

pub turn_columns-requires : goal.turn_columns-requires
turn_columns-requires c = let h = turn-place _ _ _ _ c.turn_of-t.ensures c.requires.3 c.requires.4 in (c.requires.1, h.0, h.1)
