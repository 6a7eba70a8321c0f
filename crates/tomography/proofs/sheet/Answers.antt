use Rattle.std.proofs.Common.{rules}
use Rattle.tomography.proofs.Fits.{promised}
use native.Mathlib.Omega.{arith}
use Rattle.tomography.proofs.sheet.Goals as goal

pub returns : goal.returns
returns c =
    promised {card = c.args.card.now} (λ i. omega (arith, c.type_inv.card i))
    (c.in_room.ensures _ (record { gives = λ p p' q q' r a b e. search rules }))
