use Rattle.sheets.proofs.Shown.{computed_model, length_new_model, gauge_shown}
use Rattle.sheets.specs.Sheets.{gauge_numbers}
use Rattle.lists.proofs.Parts.{front-again}
use mathlib.Core.Path.{sym, ap, ◌∙◌}
use Rattle.card_places.specs.Places.{model_words}
use Rattle.sheets.proofs.gauge_sheet.Goals as goal

pub returns : goal.returns
returns c =
    let transform = c.transform.ensures in
    let g = computed_model c.args.card.now.bytes.now c.args.card.now.header (sym c.in_ok-transform.was ∙ transform.0) in
    (gauge_shown c.args.card.now.bytes.now c.args.card.now.header _ _ _ _ _ transform.0 c.in_ok-transform.was (c.model_words.ensures.0 ∙ ap model_words c.layout.ensures) (front-again (gauge_numbers c.args.card.now.bytes.now c.args.card.now.header) _ transform.1 (length_new_model _ _ _ g ∙ sym c.model_numbers-count.ensures.0) ∙ g) c.put.ensures, transform.1)
