-- The sheet of kind 7, diagnostics of a gate set (document 01; the Rust's `fit_diagnostics_with_tolerance`): word 1 is the tolerance, then the model and the records.
use Rattle.std.specs.Prelude.{Err, Ok, ℕ, true, cond, List, [], ◌∷◌, Float}
use Rattle.numbers.specs.Number.{word, positive}
use Rattle.numbers.specs.Slice.{number_at}
use Rattle.refusal.specs.declared.Refusal.TheVariants.{InvalidTolerance}
use Rattle.refusal.specs.Verdicts.{after}
use Rattle.card_layout.specs.declared.Header.{Header}
use Rattle.model.specs.Checked.{checked_of}
use Rattle.model_words.specs.Words.{numbers_of}
use Rattle.likelihood.specs.declared.Diagnostics.{Diagnostics}
use Rattle.likelihood.specs.Multinomial.{Likelihood, refusal_of}
use Rattle.diagnostics.specs.Diagnostics.{likelihood_of}
use Rattle.outcome.specs.declared.Answer.TheVariants as answer
use Rattle.outcome.specs.Outcome.{Outcome, refused}

abbrev pub diagnostics_words : Diagnostics → List ℕ
diagnostics_words d = word d.log_likelihood ∷ word d.deviance ∷ []

-- the two numbers, or why there are none
abbrev pub likelihood_sheet : Likelihood → Outcome
likelihood_sheet (Ok d) = record { answer = Ok answer.Diagnostics; words = diagnostics_words d }
likelihood_sheet (Err u) = refused (refusal_of u)

-- the model is checked before the tolerance
unfoldable pub tolerance_sheet : List ℕ → Header → Float → Outcome
tolerance_sheet s h tolerance = cond (positive tolerance) (likelihood_sheet (likelihood_of true tolerance s h (numbers_of s h))) (refused InvalidTolerance)

unfoldable pub diagnostics_sheet : List ℕ → Header → Outcome
diagnostics_sheet s h = after (checked_of s h) refused (tolerance_sheet s h (number_at s 1))
