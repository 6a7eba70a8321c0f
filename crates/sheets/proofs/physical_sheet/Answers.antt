use Prim.Native.Nat.{◌*◌}
use Rattle.sheets.proofs.Shown.{transfer-most, physical-of-card}
use Rattle.numbers.proofs.Slices.{length-numbers}
use Rattle.numbers.specs.Slice.{numbers_at}
use Rattle.lists.proofs.Parts.{front-again, front_fits, front_length}
use native.Mathlib.Omega.{arith}
use mathlib.Core.Path.{sym, ap₂, ◌∙◌}
use Rattle.sheets.proofs.physical_sheet.Goals as goal

pub load-requires : goal.load-requires
load-requires c =
    let four-to = c.four_to-p.ensures in
    let square = c.square-count.ensures in
    let s = c.requires in
    let q = ap₂ ◌*◌ four-to.0 four-to.0 in
    (omega (arith, s.2, square.0, q), omega (arith, square.0, q, transfer-most _ s.1))

pub slice_bounds-transfer-end : goal.slice_bounds-transfer-end
slice_bounds-transfer-end c = front_fits (numbers_at c.args.card.now 3 _) _ c.load.ensures (length-numbers _ _ _)

pub slice_bounds-test_transfer-end : goal.slice_bounds-test_transfer-end
slice_bounds-test_transfer-end c = sym (front_length (numbers_at c.args.card.now 3 _) _ c.load.ensures (length-numbers _ _ _))

pub test_transfer-requires : goal.test_transfer-requires
test_transfer-requires c =
    let s = c.requires in
    (s.0, s.1, c.four_to-p.ensures.0, front_length (numbers_at c.args.card.now 3 _) _ c.load.ensures (length-numbers _ _ _) ∙ c.square-count.ensures.0)

pub returns : goal.returns
returns c =
    let four-to = c.four_to-p.ensures in
    physical-of-card _ _ _ _ _ _ (c.square-count.ensures.0 ∙ ap₂ ◌*◌ four-to.0 four-to.0) c.tolerance_of.ensures c.word_at-rotations.ensures (front-again (numbers_at c.args.card.now 3 _) _ c.load.ensures (length-numbers _ _ _)) c.test_transfer.ensures
