use mathlib.Core.Path.{ap, ◌∙◌}
use Rattle.root.specs.Root.{sqrt}
use Rattle.matrix.specs.Product.{dot_of}
use Rattle.objective.proofs.norm.Goals as goal

pub returns : goal.returns
unfolding dot_of
returns c = c.sqrt.ensures.value ∙ ap sqrt c.dot-s.ensures
