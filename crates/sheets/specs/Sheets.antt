-- The sheets of kinds 1 to 4 and 6: the verdict of each, the numbers of its header, and the words of its lines (document 01).
use Rattle.std.specs.Prelude.{ℕ, ◌*◌, ◌^◌, List, [], Float}
use Rattle.numbers.specs.Word.{word_at}
use Rattle.numbers.specs.Slice.{number_at, numbers_at, words_of}
use Rattle.refusal.specs.Verdicts.{Verdict, first_of, after}
use Rattle.pauli.specs.Density.{density_of, inverted_of, computed_of}
use Rattle.density.specs.Projection.{projected_verdict, projected_numbers}
use Rattle.transfer.specs.Process.{transfer_of, process_of, process_numbers}
use Rattle.physical.specs.Physical.{trace_preserving, unital}
use Rattle.positivity.specs.Positivity.{positivity_verdict, completely_positive}
use Rattle.card_layout.specs.declared.Header.{Header}
use Rattle.card_places.specs.Places.{model_words}
use Rattle.model.specs.Checked.{checked_of}
use Rattle.model_words.specs.Words.{model_words_of}
use Rattle.gauge.specs.Gauge.{new_model, gauged_of, gauged_numbers}
use Rattle.outcome.specs.declared.Answer.TheVariants.{Density, Projected, Process, Physical, Model}
use Rattle.outcome.specs.Outcome.{Outcome, shown}

-- `density D`, kind 1: word 1 is the tolerance, the 4^n expectations follow; the parts of the matrix are shown
unfoldable pub density_sheet : List ℕ → ℕ → Outcome
density_sheet s n =
    shown (inverted_of n (number_at s 1) (numbers_at s 2 (4 ^ n))) (Density (2 ^ n))
    (words_of (2 * (2 ^ n * 2 ^ n)) (density_of n (numbers_at s 2 (4 ^ n))))

-- the numbers that a call leaves at the front of the work slice: none where it is refused before the sum
abbrev pub density_numbers : List ℕ → ℕ → List Float
density_numbers s n = computed_of n (number_at s 1) (numbers_at s 2 (4 ^ n))

-- `projected D`, kind 2: word 1 is the tolerance, word 2 the rotations, then the d·d pairs of the estimate; the parts of the matrix are shown
abbrev pub estimate_of : List ℕ → ℕ → List Float
estimate_of s d = numbers_at s 3 (2 * (d * d))

-- the numbers that a call leaves: none where it is refused
abbrev pub projection_numbers : List ℕ → ℕ → List Float
projection_numbers s d = projected_numbers d (number_at s 1) (word_at s 2) (estimate_of s d)

unfoldable pub projected_sheet : List ℕ → ℕ → Outcome
projected_sheet s d =
    shown (projected_verdict d (number_at s 1) (word_at s 2) (estimate_of s d)) (Projected d)
    (words_of (2 * (d * d)) (projection_numbers s d))

-- `process P`, kind 3: word 1 is the tolerance, then p input vectors and p output vectors of p numbers each
abbrev pub vectors_of : List ℕ → ℕ → List Float
vectors_of s p = numbers_at s 2 (2 * (p * p))

unfoldable pub process_sheet_of : List ℕ → ℕ → Outcome
process_sheet_of s p =
    shown (process_of (number_at s 1) (vectors_of s p) p) (Process p)
    (words_of (p * p) (transfer_of (number_at s 1) (vectors_of s p) p))

-- those that a call leaves
abbrev pub transfer_numbers : List ℕ → ℕ → List Float
transfer_numbers s p = process_numbers (number_at s 1) (vectors_of s p) p

abbrev pub process_sheet : List ℕ → ℕ → Outcome
process_sheet s n = process_sheet_of s (4 ^ n)

-- `physical T U C`, kind 4: word 1 is the tolerance, word 2 the rotations, then the 16^n transfer values; no number follows
unfoldable pub physical_of : ℕ → Float → ℕ → List Float → Outcome
physical_of n tolerance rotations transfer =
    shown (positivity_verdict n tolerance rotations transfer)
    (Physical (trace_preserving (4 ^ n) tolerance transfer) (unital (4 ^ n) tolerance transfer) (completely_positive n tolerance rotations transfer))
    []

abbrev pub physical_sheet : List ℕ → ℕ → Outcome
physical_sheet s n = physical_of n (number_at s 1) (word_at s 2) (numbers_at s 3 (4 ^ n * 4 ^ n))

-- kind 6: the model is checked before the transform
unfoldable pub gauge_verdict : List ℕ → Header → Verdict
gauge_verdict s h = first_of (checked_of s h) (gauged_of s h)

-- the numbers that are computed: none where the model or the transform is refused
unfoldable pub gauge_numbers : List ℕ → Header → List Float
gauge_numbers s h = after (checked_of s h) (λ _. []) (gauged_numbers s h)

-- `model N`: the new model's words, the names as on the card
unfoldable pub gauge_sheet : List ℕ → Header → Outcome
gauge_sheet s h = shown (gauge_verdict s h) (Model (model_words h)) (model_words_of s h (new_model s h))
