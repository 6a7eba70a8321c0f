use Prim.Native.Nat.{ℕ, ◌*◌}
use mathlib.Core.Path.{ap, ◌∙◌}
use mathlib.Core.List.{List}
use native.Mathlib.Omega.{arith}
use lib.Ieee.{Float}
use Rattle.lists.proofs.Filling.{fill_end}
use Rattle.lists.proofs.Rows.{rows_none}
use Rattle.matrix.specs.Product.{row_mat_of, mat_mul_of}
use Rattle.matrix.proofs.Sums.{lent-row, row-back, product-row}
use borrow.Author.Rules.{rules}
use Rattle.matrix.proofs.mat_mul_of.Goals as goal

pub loop-i-init : goal.loop-i-init
loop-i-init c = (search rules, rows_none _ _ _)

pub loop-i-preserved : goal.loop-i-preserved
loop-i-preserved c =
    let a = c.args in
    let l = c.loop-i in (
      search rules,
      row-back _ _ l.i a.n _ _ l.out _ c.row-in-loop-i.ensures l.invariant.1
          (c.copy_from_slice.ensures.after
          ∙ c.sums_of-sums.ensures
          ∙ ap (λ (p : List Float). row_mat_of a.n p a.b.now) (lent-row a.a.now l.i a.n _ _ c.row.ensures)
          ∙ product-row a.n a.a.now a.b.now l.i),
    )

pub returns : goal.returns
unfolding mat_mul_of
returns c = fill_end _ _ _ _ _ (ap (λ (i : ℕ). i * c.args.n) (omega arith)) c.loop-i.invariant.1
