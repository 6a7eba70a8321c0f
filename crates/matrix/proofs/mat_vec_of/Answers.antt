use Prim.Native.Nat.{ℕ}
use mathlib.Core.Path.{◌≡◌, ap, ◌∙◌}
use mathlib.Core.List.{List, ◌++◌}
use native.Mathlib.Omega.{arith}
use lib.Ieee.{Float}
use lib.ListN.{length, take, drop}
use lib.Seq.{length-take-le}
use Rattle.lists.specs.Build.{build}
use Rattle.lists.proofs.Filling.{fill_none, fill_more, fill-all}
use Rattle.numbers.specs.Number.{◌*ᶠ◌}
use Rattle.numbers.specs.Slice.{at}
use Rattle.matrix.specs.Product.{cell, sum_of, dot_of, mat_vec_of}
use Rattle.matrix.proofs.Sums.{lent-row, dot-row}
use borrow.Author.Rules.{rules}
use Rattle.matrix.proofs.mat_vec_of.Goals as goal

pub loop-i-init : goal.loop-i-init
loop-i-init c = fill_none _ _

pub loop-i-preserved : goal.loop-i-preserved
loop-i-preserved c =
    let a = c.args in
    let l = c.loop-i in
    let k : length (take a.n a.out.now) ≡ a.n = length-take-le _ _ (search rules) in
    fill_more _ _ _ _ _ (omega arith) l.invariant
    (c.dot.ensures
    ∙ ap (λ (p : List Float). dot_of (length p) p a.x.now) (lent-row a.a.now l.i a.n _ _ c.row.ensures)
    ∙ dot-row a.a.now a.x.now l.i a.n (omega arith) c.requires.1)

pub returns : goal.returns
unfolding mat_vec_of
returns c =
    let a = c.args in
    ap (λ (l : List Float). l ++ drop a.n a.out.now)
    (fill-all _ _ _ _ (omega arith) c.loop-i.invariant
    ∙ ap (λ (m : ℕ). build m (λ i. sum_of a.n (λ j. cell a.n a.a.now i j *ᶠ at a.x.now j))) (length-take-le _ _ (search rules)))
