use native.Mathlib.Omega.{arith}
use Rattle.choi.proofs.Places.{inside, placed}
use Rattle.choi.proofs.Sizes.place_of.Goals as goal

pub overflow_mul-result-2 : goal.overflow_mul-result-2
overflow_mul-result-2 c = let w = inside _ _ _ _ _ _ _ c.args.self.sides c.requires.1 c.requires.2 c.requires.3 c.requires.4 in omega arith

pub overflow_add-result-3 : goal.overflow_add-result-3
overflow_add-result-3 c = let w = inside _ _ _ _ _ _ _ c.args.self.sides c.requires.1 c.requires.2 c.requires.3 c.requires.4 in omega arith

pub overflow_mul-result-4 : goal.overflow_mul-result-4
overflow_mul-result-4 c = let w = inside _ _ _ _ _ _ _ c.args.self.sides c.requires.1 c.requires.2 c.requires.3 c.requires.4 in omega arith

pub overflow_add-result-4 : goal.overflow_add-result-4
overflow_add-result-4 c = let w = inside _ _ _ _ _ _ _ c.args.self.sides c.requires.1 c.requires.2 c.requires.3 c.requires.4 in omega arith

pub returns : goal.returns
returns c = let w = inside _ _ _ _ _ _ _ c.args.self.sides c.requires.1 c.requires.2 c.requires.3 c.requires.4 in (placed _ _ _ _ _ _ _ _ c.args.self.sides, omega arith)
