use mathlib.Core.Bool.{true}
use mathlib.Core.List.{List}
use mathlib.Core.Path.{sym, ap, ◌∙◌}
use native.Mathlib.Omega.{arith}
use lib.Ieee.{Float}
use Rattle.model_words.specs.Words.{numbers_of}
use Rattle.model_words.proofs.Sizes.{length-model}
use Rattle.diagnostics.specs.Diagnostics.{likelihood_of}
use Rattle.gst_sheets.proofs.Shown.{loaded-again}
use Rattle.gst_sheets.proofs.diagnose.Goals as goal

pub returns : goal.returns
returns c =
    let s = c.args.records.now.card.bytes.now in
    let h = c.args.records.now.card.header in
    let n = c.model_numbers-n in
    c.fit_diagnostics.ensures.0 ∙ ap (λ (m : List Float). likelihood_of true c.args.tolerance s h m) (loaded-again (numbers_of s h) _ _ n.result (length-model s h ∙ sym n.ensures.0) (omega (arith, n.ensures.1)) c.load.ensures)
