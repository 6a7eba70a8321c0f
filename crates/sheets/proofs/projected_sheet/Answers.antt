use Rattle.sheets.proofs.Shown.{projected_shown}
use Rattle.sheets.proofs.projected_sheet.Goals as goal

pub returns : goal.returns
returns c =
    let project = c.project.ensures in
    (projected_shown _ _ _ project.0 _ _ _ _ _ c.in_ok-project.was c.square.ensures.0 project.1 c.emit.ensures, project.1)
