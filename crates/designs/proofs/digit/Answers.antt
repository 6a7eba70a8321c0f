use native.Mathlib.Omega.{arith}
use Rattle.designs.proofs.Digits.{lowest, middle, highest}
use Rattle.designs.proofs.digit.Goals as goal

pub returns-in-0 : goal.returns-in-0
returns-in-0 g c = lowest _ _ _ _ (omega arith) (omega arith)

pub returns-in-1 : goal.returns-in-1
returns-in-1 g c = middle _ _ _ _ (omega arith) (omega arith)

pub returns-in_default : goal.returns-in_default
returns-in_default g c = highest _ _ _ _ (omega arith) (omega arith)
