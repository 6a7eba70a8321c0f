use mathlib.Core.Path.{◌≡◌}
use lib.ListN.{get_or}
use Rattle.lists.specs.Fold.{fold}
use Rattle.numbers.specs.Number.{max, zero_f}
use Rattle.complex.specs.Arithmetic.{magnitude}
use Rattle.entries.specs.Entries.{entries, nowhere}
use Rattle.magnitudes.proofs.scale.Given as goal

abbrev pub invariant-loop-re : goal.invariant-loop-re
invariant-loop-re l = l.s ≡ fold l.re-index (λ k s. max s (magnitude (get_or (entries l.a) k nowhere))) zero_f
