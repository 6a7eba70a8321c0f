use mathlib.Core.Path.{◌≡◌}
use Prim.Native.Nat.{◌*◌, ◌^◌}
use Rattle.lists.specs.Build.{build}
use Rattle.numbers.specs.Number.{zero_f}
use Rattle.choi.specs.Sparse.{with_string}
use Rattle.lists.specs.Fold.{fold}
use Rattle.choi.proofs.Sizes.choi.Given as goal

abbrev pub invariant-loop-b : goal.invariant-loop-b
invariant-loop-b l = l.out ≡ fold l.b (λ j xs. with_string l.self.n l.values j xs) (build (2 * (4 ^ l.self.n * 4 ^ l.self.n)) (λ _. zero_f))
