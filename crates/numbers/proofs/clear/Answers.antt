use mathlib.Core.Path.{◌∙◌}
use Rattle.lists.proofs.Chains.{build-replicate}
use Rattle.numbers.specs.Slice.{blank}
use Rattle.numbers.proofs.clear.Goals as goal

pub returns : goal.returns
unfolding blank
returns c = c.fill.ensures.after (λ y e. e) ∙ build-replicate _ _
