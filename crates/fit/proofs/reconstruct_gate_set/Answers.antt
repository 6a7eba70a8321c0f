use mathlib.Core.Path.{refl, ap, ◌∙◌}
use Rattle.std.proofs.Common.{Err}
use native.Mathlib.Omega.{arith}
use lib.ListN.{length, drop}
use borrow.Author.Rules.{rules}
use mathlib.Core.Bool.{true}
use Rattle.refusal.proofs.Verdicts.{passed_on}
use Rattle.lists.proofs.Parts.{front-again, front-is}
use Rattle.model_words.specs.Words.{numbers_of}
use Rattle.diagnostics.specs.Diagnostics.{likelihood_of}
use Rattle.descent.specs.declared.GstOptimizerConfig.{GstOptimizerConfig}
use Rattle.descent.specs.Fit.{Job, fit_of}
use Rattle.parameters.specs.Parameters.{places_of}
use Rattle.parameters.proofs.Places.{length-places}
use Rattle.objective.proofs.Maps.{length-map}
use Rattle.fit.specs.Outcome.{job_of}
use Rattle.fit.proofs.Whole.{fit-by, controls-in, placed_by, job-by}
use Rattle.fit.proofs.reconstruct_gate_set.Goals as goal

pub config_of-config-requires : goal.config_of-config-requires
config_of-config-requires c =
    let k = c.args.records.now.card in
    controls-in k.bytes.now k.header k.shaped c.requires.0

pub begin-requires : goal.begin-requires
begin-requires c =
    let k = c.args.records.now.card in
    let s = k.bytes.now in
    let e = front-again (places_of s k.header) (drop (length (places_of s k.header)) _) c.load_places.ensures (length-places s k.header) in
    let p = placed_by s k.header c.requires.0 c.requires.1 c.requires.2 _ e in
    (omega (arith, c.requires.0), p.inside, search rules, c.requires.5)

pub returns-in_err-d : goal.returns-in_err-d
returns-in_err-d c =
    let k = c.args.records.now.card in
    let s = k.bytes.now in
    rw (passed_on c.from_residual.ensures.1 refl)
    (fit-by (job_of s k.header) (Err c.in_err-d.field-0.0)
    (c.in_err-d.ensures.0 ∙ ap (λ (c : GstOptimizerConfig). likelihood_of true c.probability_tolerance s k.header (numbers_of s k.header)) c.config_of-config.ensures) _ refl refl)

pub invariant_of-task : goal.invariant_of-task
invariant_of-task c =
    let k = c.args.records.now.card in
    let s = k.bytes.now in
    let e = front-again (places_of s k.header) (drop (length (places_of s k.header)) _) c.load_places.ensures (length-places s k.header) in
    record {
      placed = placed_by s k.header c.requires.0 c.requires.1 c.requires.2 _ e;
      anchored = front-is k.header.coordinates c.begin.new.anchor _ _ c.begin.ensures.1 (length-map _ _ ∙ ap length e ∙ length-places s k.header);
    }

pub returns : goal.returns
returns c =
    let k = c.args.records.now.card in
    let s = k.bytes.now in
    let e = front-again (places_of s k.header) (drop (length (places_of s k.header)) _) c.load_places.ensures (length-places s k.header) in
    c.fit_from.ensures ∙ ap (λ (J : Job). fit_of J) (job-by s k.header _ _ e c.config_of-config.ensures)
