use Rattle.logarithm.specs.Steps.{ln_of, part, poly}
use Rattle.logarithm.proofs.Constants.{constants}
use Rattle.logarithm.proofs.ln_of.Goals as goal

pub returns : goal.returns
unfolding ln_of part poly
returns c =
    let k = constants in
    simp (
      k.one,
      k.three,
      k.five,
      k.six,
      k.half,
      k.quarter,
      k.least,
      k.two43,
      k.two44,
      k.two70,
    )
