use mathlib.Core.Path.{sym}
use lib.Ieee.{div, of_bits}
use Rattle.numbers.proofs.Leaves.{nan-word, no-nan-word}
use Rattle.numbers.proofs.number_of.Goals as goal

pub float_from_bits-result : goal.float_from_bits-result
float_from_bits-result c = no-nan-word _ c.if-w-gt9218868437227405312.false

pub returns-then-w-gt9218868437227405312 : goal.returns-then-w-gt9218868437227405312
unfolding div of_bits
returns-then-w-gt9218868437227405312 c = sym (nan-word _ c.if-w-gt9218868437227405312.true)
