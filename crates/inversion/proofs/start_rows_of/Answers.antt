use Prim.Native.Nat.{ℕ, ◌*◌, ◌+◌}
use mathlib.Core.Path.{ap, sym, ◌∙◌}
use native.Mathlib.Omega.{arith}
use Rattle.lists.specs.Build.{build}
use Rattle.lists.proofs.Filling.{fill-all}
use Rattle.matrix.proofs.Sums.{row-back}
use Rattle.inversion.specs.Kept.{start_rows}
use Rattle.inversion.proofs.Halves.{start_number, start-numbers}
use borrow.Author.Rules.{rules}
use Rattle.inversion.proofs.start_rows_of.Goals as goal

pub loop-i-preserved : goal.loop-i-preserved
loop-i-preserved c =
    let a = c.args in
    let l = c.loop-i in
    (search rules, row-back _ _ l.i (2 * a.n + 2) _ _ l.work _ c.row.ensures l.invariant.1 (c.start_row.ensures ∙ start-numbers a.n a.a.now l.i))

pub returns : goal.returns
unfolding start_rows
returns c =
    let a = c.args in
    fill-all _ _ _ _ (ap (λ (i : ℕ). i * (2 * a.n + 2)) (omega arith) ∙ sym c.requires.2) c.loop-i.invariant.1 ∙ ap (λ (m : ℕ). build m (start_number a.n a.a.now)) c.requires.2
