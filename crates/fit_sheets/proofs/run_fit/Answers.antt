use mathlib.Core.Path.{ap, sym, ◌∙◌}
use Rattle.parameters.specs.Parameters.{config_of}
use Rattle.parameters.proofs.Places.{places-inside, request-good}
use Rattle.fit.specs.Outcome.{Fitting, outcome_of}
use Rattle.model_words.specs.Words.{model_numbers}
use lib.ListN.{take}
use borrow.Author.Rules.{rules}
use Rattle.outcome.proofs.Outcomes.{returned}
use Rattle.fit_sheets.specs.Sheets.{outcome_sheet}
use Rattle.fit_sheets.proofs.run_fit.Goals as goal

pub reconstruct_gate_set-requires : goal.reconstruct_gate_set-requires
unfolding config_of
reconstruct_gate_set-requires c =
    let k = c.args.records.now.card in
    let r = c.requires.0 in
    let g = request-good k.bytes.now k.header c.requires.1 in
    (r.kind, k.shaped.limits.coordinates, places-inside k.bytes.now k.header g.1, r.backtracks, r.iterations, (search rules, search rules))

pub returns-in_err-f : goal.returns-in_err-f
returns-in_err-f c =
    let k = c.args.records.now.card in
    let fit = c.reconstruct_gate_set in
    returned _ c.from_residual.ensures.1 (ap (outcome_sheet k.bytes.now k.header) (ap (λ (q : Fitting). outcome_of q (take (model_numbers k.header) fit.new.model)) (sym c.in_err-f.was) ∙ fit.ensures))
