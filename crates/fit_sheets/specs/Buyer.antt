-- The buyer's statement, as a sheet of kind 5 bears it (document 01: demand 3's words, by the card). It is `Claim` of crate descent, on the list of points 0 to S, with
-- the sheet's header and words.
use Rattle.std.specs.Prelude.{ℕ, ◌+◌, ◌*◌, ◌≤◌, ◌<◌, ◌≡◌, Bool, true, false, cond, List, eqb, get_or, take, Float}
use Rattle.numbers.specs.Word.{word_at}
use Rattle.card_layout.specs.declared.Header.{Header}
use Rattle.card_layout.specs.declared.Coordinate.{Coordinate}
use Rattle.card_places.specs.Places.{model_at, model_words}
use Rattle.model_words.specs.Words.{vector_numbers}
use Rattle.descent.specs.Fit.{Fitted}
use Rattle.descent.specs.Claim.{listed, Claim}
use Rattle.descent.specs.Stop.{stop_number, converged}
use Rattle.parameters.specs.Parameters.{has_entry, place_of, places_of}
use Rattle.fit.specs.Outcome.{job_of}
use Rattle.fit_sheets.specs.Sheets.{fit_words}

-- the place among a model's words of gate g's name, and of the entry that a coordinate names
abbrev pub name_place : Header → ℕ → ℕ
name_place h g = vector_numbers h + g * (1 + h.dimension * h.dimension)

unfoldable pub word_place : Header → Coordinate → ℕ
word_place h c =
    cond (eqb c.kind 1) c.column
    (cond (eqb c.kind 2) (h.dimension + c.which * h.dimension + c.column)
    (name_place h c.which + (1 + (c.row * h.dimension + c.column))))

-- The card s, with the header h, gave the sheet `fit R S E V`, V being v, whose words are at the front of the result m.
pub record Buyer (s : List ℕ) (h : Header) (R S E : ℕ) (v : Bool) (m : List ℕ) : Type 0 where
  -- what the sheet shows: this fit, by its header and by each of its words
  pub fit : Fitted
  pub reason : R ≡ stop_number fit.stop
  pub steps : S ≡ fit.steps
  pub evaluations : E ≡ fit.evaluations
  pub convergence : v ≡ converged fit.stop
  pub words : take (6 + model_words h) m ≡ fit_words s h fit
  -- its points: `Claim` says line by line how each comes from the card and the point before
  pub points : List (List Float)
  pub claim : Claim (job_of s h) fit points
  -- every model word that no coordinate names has the card's bits: entries, and names
  pub entries : (c : Coordinate) → has_entry h c ≡ true → listed (place_of h c) (places_of s h) ≡ false → get_or m (6 + word_place h c) 0 ≡ word_at s (model_at h + word_place h c)
  pub names : (g : ℕ) → g < h.gates → get_or m (6 + name_place h g) 0 ≡ word_at s (model_at h + name_place h g)
  -- E is at most 1 + 2P(I + 1) + I·B
  pub counted : E ≤ 1 + 2 * h.coordinates * (word_at s 1 + 1) + word_at s 1 * word_at s 7
