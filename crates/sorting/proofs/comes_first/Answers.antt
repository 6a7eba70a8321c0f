use Rattle.sorting.specs.Sort.{before}
use Rattle.sorting.proofs.comes_first.Goals as goal

pub returns-then-falling : goal.returns-then-falling
unfolding before
returns-then-falling c = rw c.if-falling.true c.comes_before.ensures

pub returns-else-falling : goal.returns-else-falling
unfolding before
returns-else-falling c = rw c.if-falling.false c.comes_before-else-falling.ensures
