use Rattle.numbers.proofs.Leaves.{finite-word}
use Rattle.numbers.proofs.is_finite_word.Goals as goal

pub returns : goal.returns
returns c = finite-word _
