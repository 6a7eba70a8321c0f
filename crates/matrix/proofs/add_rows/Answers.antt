use Prim.Native.Nat.{ℕ, ◌-◌, ◌<◌}
use mathlib.Core.Path.{◌≡◌, ap, ◌∙◌}
use mathlib.Core.List.{List}
use native.Mathlib.Omega.{arith}
use lib.Ieee.{Float, neg, of_bits, nan}
use lib.ListN.{length, take, drop}
use lib.Seq.{length-take-le, get_or-take}
use Rattle.lists.specs.Build.{build}
use Rattle.lists.proofs.Chains.{build-replicate}
use Rattle.lists.proofs.Folding.{fold-none}
use Rattle.numbers.specs.Number.{minus_zero_f, ◌+ᶠ◌, ◌*ᶠ◌}
use Rattle.numbers.specs.Slice.{at}
use Rattle.matrix.proofs.Sums.{lent-row, added_more, added-all}
use borrow.Author.Rules.{rules}
use Rattle.matrix.proofs.add_rows.Goals as goal

pub loop-i-init : goal.loop-i-init
unfolding neg of_bits
loop-i-init c =
    (search rules, c.fill.ensures.after (λ _ e. e) ∙ build-replicate _ _ ∙ ap (λ (m : ℕ). build m (λ _. minus_zero_f)) c.requires.3 ∙ fold-none _ _)

pub loop-i-preserved : goal.loop-i-preserved
loop-i-preserved c =
    let a = c.args in
    let l = c.loop-i in
    let k : length (take a.n a.x.now) ≡ a.n = length-take-le _ _ (search rules) in
    let h : l.i < a.n = omega arith in
    let p : List Float = take (c.row.result.end - c.row.result.start) (drop c.row.result.start a.a.now) in (
      search rules,
      added_more _ a.x.now a.a.now l.i l.sums _ l.invariant.0 l.invariant.1
          (c.add_row.ensures
          ∙ ap (λ (t : Float). build (length l.sums) (λ j. at l.sums j +ᶠ t *ᶠ at p j)) (get_or-take a.n a.x.now l.i nan h)
          ∙ ap (λ (p : List Float). build (length l.sums) (λ j. at l.sums j +ᶠ at a.x.now l.i *ᶠ at p j)) (lent-row a.a.now l.i a.n _ _ c.row.ensures)),
    )

pub returns : goal.returns
returns c =
    let a = c.args in
    let k : length (take a.n a.x.now) ≡ a.n = length-take-le _ _ (search rules) in
    added-all _ a.x.now a.a.now _ _ (omega arith) c.loop-i.invariant.1
