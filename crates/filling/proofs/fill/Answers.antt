use Rattle.filling.proofs.Counting.{filling-is}
use Rattle.filling.proofs.fill.Goals as goal

pub returns : goal.returns
returns c = filling-is _ _ _ _ c.arrange.ensures.1 c.threshold.ensures c.lower.ensures
