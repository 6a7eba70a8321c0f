use Prim.Native.Nat.{min}
use mathlib.Core.Path.{◌≡◌, ap, ◌∙◌}
use native.Mathlib.Omega.{arith}
use lib.Ieee.{nan, neg, of_bits}
use lib.ListN.{length}
use Rattle.lists.proofs.Chains.{fold-zip}
use Rattle.numbers.specs.Number.{minus_zero_f}
use Rattle.numbers.specs.Slice.{at}
use Rattle.matrix.specs.Product.{sum_of}
use Rattle.model_words.specs.Words.{numbers_of}
use Rattle.objective.specs.Job.{job_by}
use Rattle.objective.proofs.Maps.{length-map}
use Rattle.objective.proofs.Distances.{objective-by}
use Rattle.objective.proofs.objective.Goals as goal

pub returns : goal.returns
unfolding neg of_bits sum_of
returns c = λ s h places anchored long.
    let a = c.args in
    let xs = a.xs.now in
    let n : min (length xs) (length a.anchor.now) ≡ length xs = omega (arith, ap length anchored, length-map (at (numbers_of s h)) places, long) in
    objective-by (job_by s h places a.config) a.likely _ xs a.anchor.now anchored long (c.with_distances.ensures ∙ fold-zip _ minus_zero_f nan nan (length xs) xs a.anchor.now n)
