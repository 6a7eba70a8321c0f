use native.Mathlib.Omega.{arith}
use Rattle.sizes.proofs.Small.{product_le}
use borrow.Author.Rules.{rules}
use Rattle.sizes.proofs.square.Goals as goal

pub overflow_mul-result : goal.overflow_mul-result
overflow_mul-result c = omega (arith, product_le c.args.d c.args.d 64 64 (search rules) (search rules))

pub returns : goal.returns
returns c = (search rules, omega (arith, product_le c.args.d c.args.d 64 64 (search rules) (search rules)))
