use Prim.Native.Nat.{ℕ, ◌*◌}
use mathlib.Core.Path.{ap, ◌∙◌}
use native.Mathlib.Omega.{arith}
use Rattle.lists.proofs.Filling.{fill_end}
use Rattle.lists.proofs.Rows.{rows_none}
use Rattle.matrix.specs.Product.{transposed_of}
use Rattle.matrix.proofs.Sums.{row-back}
use Rattle.matrix.proofs.Transposes.{transposed-row}
use borrow.Author.Rules.{rules}
use Rattle.matrix.proofs.transpose_of.Goals as goal

pub loop-j-init : goal.loop-j-init
loop-j-init c = (search rules, rows_none _ _ _)

pub loop-j-preserved : goal.loop-j-preserved
loop-j-preserved c =
    let l = c.loop-j in
    (search rules, row-back _ _ l.j c.args.n _ _ l.out _ c.row.ensures l.invariant.1 (c.put_column.ensures ∙ transposed-row c.args.n c.args.a.now _))

pub returns : goal.returns
unfolding transposed_of
returns c = fill_end _ _ _ _ _ (ap (λ (i : ℕ). i * c.args.n) (omega arith)) c.loop-j.invariant.1
