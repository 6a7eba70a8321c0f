use Rattle.sheets.proofs.Shown.{density_shown}
use Rattle.sheets.proofs.density_sheet.Goals as goal

pub returns : goal.returns
returns c =
    let invert-density = c.invert_density.ensures in
    (density_shown _ _ _ invert-density.0 _ _ _ _ _ c.in_ok-invert_density.was c.two_to-d.ensures.0 invert-density.1 c.emit.ensures, invert-density.1)
