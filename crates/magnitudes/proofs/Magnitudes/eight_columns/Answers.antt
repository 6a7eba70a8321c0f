use Prim.Native.Nat.{◌+◌, ◌*◌}
use mathlib.Core.Bool.{Bool, true, false, cond}
use mathlib.Core.Logic.{inl, inr}
use mathlib.Core.Path.{◌≡◌, refl, ◌∙◌}
use native.Mathlib.Nat.{le_refl}
use native.Mathlib.Omega.{arith}
use lib.Lanes.{top}
use lib.ListN.{length}
use lib.Ieee.{lt}
use borrow.Author.Rules.{rules}
use Rattle.magnitudes.proofs.Loops.{no-row, one-row, row-lent, all-rows}
use Rattle.magnitudes.proofs.Magnitudes.eight_columns.Goals as goal

pub loop-j-init : goal.loop-j-init
loop-j-init c = (no-row c.args.half (c.args.half * 8 + 1) c.args.self.now.cells (le_refl _), inl refl)

tops : (b : Bool) → top 63 (cond b 0xffff_ffff_ffff_ffff 0) ≡ b
tops true = refl
tops false = refl

pub loop-j-preserved : goal.loop-j-preserved
loop-j-preserved c =
    let long : length c.args.self.now.cells ≡ 256 = search rules in
    let a = c.args in
    let j = c.loop-j.j in (
      one-row _ (λ x y. tops (lt x y)) a.half j a.self.now.cells c.loop-j.largest _ c.loop-j.auto.j c.loop-j.invariant.0
          (row-lent a.half j _ a.self.now.cells refl (omega (arith, c.loop-j-test.true, c.requires.0, c.requires.1)) long),
      inr (omega (arith, c.loop-j-test.true)),
    )

pub returns : goal.returns
returns c = c.loop-j.invariant.0 ∙ all-rows c.args.half c.loop-j.j c.args.n c.args.self.now.cells c.loop-j-test.false c.loop-j.invariant.1
