use Rattle.choi.proofs.Steps.{share-is}
use Rattle.choi.proofs.Sizes.share_of.Goals as goal

pub returns : goal.returns
returns c = share-is _ _ _ _ _ c.args.self.sides.side c.unit_of.ensures
