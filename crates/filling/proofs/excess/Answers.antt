use mathlib.Core.Path.{refl}
use Rattle.filling.specs.Filling.{excess}
use Rattle.filling.proofs.excess.Goals as goal

pub returns : goal.returns
unfolding excess
returns c = refl
