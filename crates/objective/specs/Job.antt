-- What a fit card gives to its fit.
use Rattle.std.specs.Prelude.{Err, Ok, ℕ, ◌≤◌, ◌<◌, true, List, length, get_or, Float}
use Rattle.refusal.specs.Verdicts.{Verdict}
use Rattle.card_layout.specs.declared.Header.{Header}
use Rattle.model_words.specs.Words.{model_numbers, numbers_of}
use Rattle.diagnostics.specs.Diagnostics.{likelihood_of}
use Rattle.descent.specs.declared.GstOptimizerConfig.{GstOptimizerConfig}
use Rattle.descent.specs.Fit.{Job, Slopes, slopes, unusable}

-- by the places of the coordinates' entries and the controls
abbrev pub job_by : List ℕ → Header → List ℕ → GstOptimizerConfig → Job
job_by s h places c = record { model = numbers_of s h; places = places; config = c; likelihood = likelihood_of true c.probability_tolerance s h }

-- coordinates' places, which lie within the model of a card with this header
pub record Placed (h : Header) (places : List ℕ) : Type 0 where
  pub kind : 5 ≤ h.kind
  pub few : length places ≤ 64
  pub inside : (i : ℕ) → i < length places → get_or places i 0 < model_numbers h

-- a gradient's verdict with the numbers that it left
abbrev pub slopes_of : Verdict → List Float → Slopes
slopes_of (Ok _) g = slopes g
slopes_of (Err r) g = unusable r
