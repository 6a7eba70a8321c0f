-- The controls and the coordinates of a fit card, as the Rust's `validate_optimizer_config` and `parameter_value` test them, in its order.
use Rattle.refusal.specs.Verdicts.{good, Verdict, first_of}
use Rattle.std.specs.Prelude.{Err, ℕ, ◌+◌, ◌*◌, Bool, false, cond, not, ◌&&◌, List, eqb, ltb}
use Rattle.std.specs.Float.Ieee.{lt}
use Rattle.lists.specs.Build.{build}
use Rattle.lists.specs.Fold.{fold}
use Rattle.numbers.specs.Number.{zero_f, finite, positive}
use Rattle.numbers.specs.Word.{word_at}
use Rattle.numbers.specs.Slice.{number_at}
use Rattle.refusal.specs.declared.Reason.TheVariants.{Controls, NoCoordinates, NoRecords, RepeatedCoordinate}
use Rattle.refusal.specs.declared.Refusal.TheVariants.{InvalidGstOptimization, InvalidGstParameter}
use Rattle.card_layout.specs.declared.Header.{Header}
use Rattle.card_layout.specs.declared.Coordinate.{Coordinate}
use Rattle.card_places.specs.Places.{coordinate_at}
use Rattle.card_parts.specs.Parts.{coordinate_in}
use Rattle.model.specs.Checked.{any_of}
use Rattle.descent.specs.declared.GstOptimizerConfig.{GstOptimizerConfig}

-- words 1 to 8
unfoldable pub config_of : List ℕ → GstOptimizerConfig
config_of s =
    record {
      max_iterations = word_at s 1;
      initial_step = number_at s 2;
      finite_difference_step = number_at s 3;
      gradient_tolerance = number_at s 4;
      objective_tolerance = number_at s 5;
      probability_tolerance = number_at s 6;
      max_backtracks = word_at s 7;
      anchor_strength = number_at s 8;
    }

-- no limit is 0, the five numbers are finite and positive, the anchor is finite and not negative
unfoldable pub good_config : GstOptimizerConfig → Bool
good_config c =
    ltb 0 c.max_iterations
    && (ltb 0 c.max_backtracks
    && (positive c.initial_step
    && (positive c.finite_difference_step
    && (positive c.gradient_tolerance
    && (positive c.objective_tolerance
    && (positive c.probability_tolerance
    && (finite c.anchor_strength && not (lt c.anchor_strength zero_f))))))))

-- the entry that a coordinate names exists: of the state (kind 1) and of an effect (2) by its index, of a gate (3) by row·d + column
unfoldable pub has_entry : Header → Coordinate → Bool
has_entry h c =
    cond (eqb c.kind 1) (ltb c.column h.dimension)
    (cond (eqb c.kind 2) (ltb c.which h.effects && ltb c.column h.dimension)
    (ltb c.which h.gates && ltb (c.row * h.dimension + c.column) (h.dimension * h.dimension)))

-- its place among the model's numbers
unfoldable pub place_of : Header → Coordinate → ℕ
place_of h c =
    cond (eqb c.kind 1) c.column
    (cond (eqb c.kind 2) (h.dimension + c.which * h.dimension + c.column)
    (h.dimension + h.effects * h.dimension + c.which * (h.dimension * h.dimension) + (c.row * h.dimension + c.column)))

unfoldable pub places_of : List ℕ → Header → List ℕ
places_of s h = build h.coordinates (λ i. place_of h (coordinate_in s h i))

-- coordinate i is an earlier one again
unfoldable pub repeated : List ℕ → Header → ℕ → Bool
repeated s h i = any_of false i (λ j. eqb (word_at s (coordinate_at h j)) (word_at s (coordinate_at h i)))

-- coordinate i: repeated, then without an entry
unfoldable pub parameter_verdict : List ℕ → Header → ℕ → Verdict
parameter_verdict s h i =
    cond (repeated s h i) (Err (InvalidGstOptimization RepeatedCoordinate))
    (cond (has_entry h (coordinate_in s h i)) good
    (Err (InvalidGstParameter i)))

unfoldable pub parameters_verdict : List ℕ → Header → Verdict
parameters_verdict s h = fold h.coordinates (λ i v. first_of v (parameter_verdict s h i)) good

-- the controls, no records, no coordinates, then coordinate by coordinate
unfoldable pub request_verdict : List ℕ → Header → Verdict
request_verdict s h =
    cond (not (good_config (config_of s))) (Err (InvalidGstOptimization Controls))
    (cond (eqb h.records 0) (Err (InvalidGstOptimization NoRecords))
    (cond (eqb h.coordinates 0) (Err (InvalidGstOptimization NoCoordinates))
    (parameters_verdict s h)))
