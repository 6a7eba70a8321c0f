-- The likelihood of a card's records under a model (the Rust's `fit_diagnostics_with_tolerance`): record by record, all of one before any of the next.
use Rattle.likelihood.specs.declared.Unfit.TheVariants.{Refused}
use Rattle.std.specs.Prelude.{Err, Ok, ℕ, ◌*◌, ◌≤◌, ◌≡◌, Bool, List, length, Float}
use Rattle.lists.specs.Build.{build}
use Rattle.lists.specs.Fold.{fold}
use Rattle.numbers.specs.Number.{zero_f}
use Rattle.logarithm.specs.Steps.{ln}
use Rattle.refusal.specs.Verdicts.{after}
use Rattle.card_layout.specs.declared.Header.{Header}
use Rattle.card_parts.specs.Parts.{sequence_of, count_in}
use Rattle.model_words.specs.Words.{model_numbers}
use Rattle.gate_set.specs.GateSet.{present_of, probabilities_of, columns_in}
use Rattle.likelihood.specs.declared.Diagnostics.{Diagnostics}
use Rattle.likelihood.specs.Multinomial.{Likelihood, onward, with_record}

-- record r's counts, one for each effect
unfoldable pub counts_of : List ℕ → Header → ℕ → List ℕ
counts_of s h r = build h.effects (count_in s h r)

abbrev pub no_diagnostics : Diagnostics
no_diagnostics = record { log_likelihood = zero_f; deviance = zero_f }

-- by the card s with the header h, of the model with the numbers m
module _ (log : Float → Float) (deviance : Bool) (tolerance : Float) (s : List ℕ) (h : Header) (m : List Float) where
  -- record r: a gate that is absent, then the probabilities and counts
  unfoldable pub record_onward : ℕ → Diagnostics → Likelihood
  record_onward r d =
      after (present_of h.gates (sequence_of s h r)) (λ r. Err (Refused r))
      (with_record log deviance tolerance (counts_of s h r) (probabilities_of h.dimension h.effects m (sequence_of s h r)) d)

  unfoldable pub likelihood_by : Likelihood
  likelihood_by = fold h.records (λ r. onward (record_onward r)) (Ok no_diagnostics)

-- with document 01's logarithm
abbrev pub likelihood_of : Bool → Float → List ℕ → Header → List Float → Likelihood
likelihood_of deviance tolerance s h m = likelihood_by ln deviance tolerance s h m

-- ---- what the code is lent

-- a model's gates by columns
abbrev pub columns_of : Header → List Float → List Float
columns_of h m = columns_in h.dimension h.effects h.gates m

-- a model's numbers and its gates by columns
abbrev pub Columned : Header → List Float → List Float → Type 0
Columned h m columns = (model_numbers h ≤ length m) × (columns ≡ columns_of h m)

-- room for a model's numbers, and for its gates by columns
abbrev pub Roomy : Header → List Float → List Float → Type 0
Roomy h model columns = (model_numbers h ≤ length model) × (h.gates * (h.dimension * h.dimension) ≤ length columns)
