use native.Mathlib.Omega.{arith}
use Rattle.sequences.proofs.Sequences.{products}
use Rattle.sequences.proofs.model_size.Goals as goal

pub overflow_mul-result : goal.overflow_mul-result
overflow_mul-result c = omega (arith, (products _ _ _ c.requires).0)

pub overflow_add-result : goal.overflow_add-result
overflow_add-result c = omega (arith, (products _ _ _ c.requires).0)

pub overflow_mul-result-2 : goal.overflow_mul-result-2
overflow_mul-result-2 c = omega (arith, (products _ _ _ c.requires).1)

pub overflow_mul-result-3 : goal.overflow_mul-result-3
overflow_mul-result-3 c = omega (arith, (products _ _ _ c.requires).2)

pub overflow_add-result-2 : goal.overflow_add-result-2
overflow_add-result-2 c = let p = products _ _ _ c.requires in omega (arith, p.0, p.2)
