use Rattle.card_layout.proofs.EachKind.{number-is}
use Rattle.tomography.proofs.Cards.{projected_card, process_card, physical_card, physical_shown}
use Rattle.tomography.proofs.run_kind.Goals as goal

pub projected_sheet-requires : goal.projected_sheet-requires
projected_sheet-requires c =
    let a = projected_card _ _ c.requires.0 (number-is c.in-Ok-Projected.ensures c.in-Ok-Projected.field-0-is) in
    (a.0, a.1, a.2, c.requires.1, c.requires.2)

pub process_sheet-requires : goal.process_sheet-requires
process_sheet-requires c =
    let a = process_card _ _ c.requires.0 (number-is c.in-Ok-Process.ensures c.in-Ok-Process.field-0-is) in
    (a.0, a.1, c.requires.1, c.requires.2)

pub physical_sheet-requires : goal.physical_sheet-requires
physical_sheet-requires c = physical_card _ _ c.requires.0 (number-is c.in-Ok-Physical.ensures c.in-Ok-Physical.field-0-is)

pub returns-in-Ok-Physical : goal.returns-in-Ok-Physical
returns-in-Ok-Physical c = physical_shown _ _ _ _ (number-is c.in-Ok-Physical.ensures c.in-Ok-Physical.field-0-is) c.physical_sheet.ensures
