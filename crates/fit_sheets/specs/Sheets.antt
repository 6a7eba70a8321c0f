-- The sheet of a fit, kind 5 (document 01): `fit R S E V`, six numbers, and the words of the model.
use Rattle.std.specs.Prelude.{Ok, ℕ, ◌≤◌, ◌≡◌, List, [], ◌∷◌, ◌++◌, Float}
use Rattle.numbers.specs.Word.{word_at}
use Rattle.numbers.specs.Slice.{words_of}
use Rattle.refusal.specs.Verdicts.{after}
use Rattle.card_layout.specs.declared.Header.{Header}
use Rattle.card_layout.specs.Limits.{most_iterations, most_backtracks}
use Rattle.card_places.specs.Places.{model_words}
use Rattle.model.specs.Checked.{checked_of}
use Rattle.model_words.specs.Words.{model_words_of}
use Rattle.likelihood.specs.declared.Diagnostics.{Diagnostics}
use Rattle.descent.specs.Fit.{Fitted, fitted, unfitted, fit_of}
use Rattle.descent.specs.Fit as descent
use Rattle.descent.specs.Stop.{stop_number, converged}
use Rattle.parameters.specs.Parameters.{request_verdict}
use Rattle.fit.specs.Outcome.{job_of}
use Rattle.outcome.specs.declared.Answer.TheVariants.{Fit}
use Rattle.outcome.specs.Outcome.{Outcome, refused}

-- what a fit asks of its card beside its records: its kind, and the limits of its controls (an accepted card of kind 5 has them)
pub record FitRequest (s : List ℕ) (h : Header) : Type 0 where
  pub kind : h.kind ≡ 5
  pub iterations : word_at s 1 ≤ most_iterations
  pub backtracks : word_at s 7 ≤ most_backtracks

-- the six numbers before the model: log-likelihood and deviance at the start and at the end, the objective, the gradient's norm
abbrev pub fit_numbers : Diagnostics → Diagnostics → Float → Float → List Float
fit_numbers initial final objective norm = initial.log_likelihood ∷ initial.deviance ∷ final.log_likelihood ∷ final.deviance ∷ objective ∷ norm ∷ []

-- all words of the sheet of f, a fit of the card s
unfoldable pub fit_words : List ℕ → Header → Fitted → List ℕ
fit_words s h f = words_of 6 (fit_numbers f.initial f.final f.objective f.norm) ++ model_words_of s h f.model

abbrev pub outcome_sheet : List ℕ → Header → descent.Outcome → Outcome
outcome_sheet s h (fitted f) =
    record {
      answer = Ok (Fit (stop_number f.stop) f.steps f.evaluations (converged f.stop) (model_words h));
      words = fit_words s h f;
    }
outcome_sheet s h (unfitted r) = refused r

-- the model is checked before the controls, the records and the coordinates
unfoldable pub request_sheet : List ℕ → Header → Outcome
request_sheet s h = after (request_verdict s h) refused (outcome_sheet s h (fit_of (job_of s h)))

unfoldable pub fit_sheet : List ℕ → Header → Outcome
fit_sheet s h = after (checked_of s h) refused (request_sheet s h)
