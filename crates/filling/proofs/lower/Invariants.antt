use Rattle.lists.proofs.Filling.{Filled}
use Rattle.numbers.specs.Number.{max, zero_f, ◌-ᶠ◌}
use Rattle.numbers.specs.Slice.{at}
use Rattle.filling.proofs.lower.Given as goal

abbrev pub invariant-loop-x : goal.invariant-loop-x
invariant-loop-x l = Filled (λ j. max (at l.initial.w j -ᶠ l.t) zero_f) l.initial.w l.x-index l.w
