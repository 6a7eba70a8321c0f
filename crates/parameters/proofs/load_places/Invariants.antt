use Rattle.lists.proofs.Filling.{Filled}
use Rattle.card_parts.specs.Parts.{coordinate_in}
use Rattle.parameters.specs.Parameters.{place_of}
use Rattle.parameters.proofs.load_places.Given as goal

abbrev pub invariant-loop-i : goal.invariant-loop-i
invariant-loop-i l = Filled (λ j. place_of l.card.header (coordinate_in l.card.bytes.now l.card.header j)) l.initial.place-items l.i l.place-items
