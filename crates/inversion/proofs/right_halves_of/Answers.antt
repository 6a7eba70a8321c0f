use Prim.Native.Nat.{ℕ, ◌*◌}
use mathlib.Core.Path.{ap}
use native.Mathlib.Omega.{arith}
use Rattle.lists.proofs.Filling.{fill_end}
use Rattle.matrix.proofs.Sums.{row-back}
use Rattle.inversion.specs.Kept.{kept_right}
use Rattle.inversion.proofs.Halves.{right-row}
use borrow.Author.Rules.{rules}
use Rattle.inversion.proofs.right_halves_of.Goals as goal

pub loop-i-preserved : goal.loop-i-preserved
loop-i-preserved c =
    let a = c.args in
    let l = c.loop-i in
    (search rules, row-back _ _ l.i a.n _ _ l.out _ c.row-in-loop-i.ensures l.invariant.1 (right-row a.n l.i _ _ _ a.places.now a.work.now _ (omega arith) c.row.ensures c.requires.3 c.gather.ensures))

pub returns : goal.returns
unfolding kept_right
returns c = fill_end _ _ _ _ _ (ap (λ (i : ℕ). i * c.args.n) (omega arith)) c.loop-i.invariant.1
