use Rattle.sheets.proofs.Shown.{process_shown}
use Rattle.sizes.proofs.Small.{four-some, four-most}
use Rattle.lists.specs.Build.{over}
use Rattle.sheets.specs.Sheets.{transfer_numbers}
use native.Mathlib.Omega.{arith}
use Prim.Native.Nat.{ℕ}
use mathlib.Core.Path.{ap, ◌∙◌}
use Rattle.sheets.proofs.process_sheet.Goals as goal

pub invert_process-requires : goal.invert_process-requires
invert_process-requires c =
    let k = c.four_to-p.ensures.0 in
    (omega (arith, four-some c.args.n, k), omega (arith, four-most c.args.n c.requires.0, k), rw k c.requires.1, c.requires.3)

pub returns : goal.returns
returns c =
    let four-to = c.four_to-p.ensures in
    let invert-process = c.invert_process.ensures in
    (process_shown _ c.args.n _ four-to.0 _ invert-process.0 _ _ _ _ _ c.in_ok-invert_process.was c.square.ensures.0 invert-process.1 c.emit.ensures, invert-process.1 ∙ ap (λ (p : ℕ). over (transfer_numbers c.args.card.now p) c.args.work.now) four-to.0)
