use mathlib.Core.Path.{◌∙◌}
use Rattle.fit.proofs.Whole.{controls-in}
use Rattle.model.specs.Checked.{checked_of}
use Rattle.outcome.proofs.Outcomes.{returned, refused-by, followed, same_outcome}
use Rattle.fit_sheets.specs.Sheets.{request_sheet, fit_sheet}
use Rattle.fit_sheets.proofs.fit_sheet.Goals as goal

pub check_request-requires : goal.check_request-requires
check_request-requires c =
    let k = c.args.records.now.card in
    controls-in k.bytes.now k.header k.shaped c.requires.0.kind

pub returns-in_err-check : goal.returns-in_err-check
unfolding fit_sheet checked_of
returns-in_err-check c = returned _ c.from_residual.ensures.1 (refused-by _ c.check.ensures c.in_err-check.was)

pub returns-in_err-check_request : goal.returns-in_err-check_request
unfolding fit_sheet request_sheet checked_of
returns-in_err-check_request c =
    returned _ c.from_residual-in_err-check_request.ensures.1 (refused-by _ c.check_request.ensures c.in_err-check_request.was ∙ followed _ c.check.ensures c.in_ok-check.was)

pub returns : goal.returns
unfolding fit_sheet request_sheet checked_of
returns c = same_outcome (followed _ c.check_request.ensures c.in_ok-check_request.was ∙ followed _ c.check.ensures c.in_ok-check.was) c.run_fit.ensures
