-- The parts of a record, and a coordinate, read from the card's words (document 01, "The card").
use Rattle.std.specs.Prelude.{ℕ, ◌%◌, ◌≤◌, ◌<◌, List, length}
use Rattle.lists.specs.Build.{build}
use Rattle.numbers.specs.Word.{word_at}
use Rattle.card_layout.specs.declared.Header.{Header}
use Rattle.card_layout.specs.declared.Coordinate.{Coordinate}
use Rattle.card_layout.specs.Fields.{length_of, index_of, coordinate_of}
use Rattle.card_layout.specs.Limits.{longest}
use Rattle.card_places.specs.Places.{record_at, index_at, count_at, coordinate_at}

-- the gate indices that record r's sequence uses, in order. All that reads a sequence reads it by this definition: document 02's germs, which make a
-- record short for a longer sequence, change it and nothing above it
unfoldable pub sequence_of : List ℕ → Header → ℕ → List ℕ
sequence_of s h r = build (length_of (word_at s (record_at h r))) (λ k. index_of (word_at s (index_at h r k)) (k % 16))

-- record r is there, and its sequence is within the limit, as on an accepted card
pub record Sequence (s : List ℕ) (h : Header) (r : ℕ) : Type 0 where
  pub there : r < h.records
  pub short : length (sequence_of s h r) ≤ longest

-- the same of every record
abbrev pub Sequences : List ℕ → Header → Type 0
Sequences s h = (r : ℕ) → r < h.records → Sequence s h r

-- record r's count of outcome k
unfoldable pub count_in : List ℕ → Header → ℕ → ℕ → ℕ
count_in s h r k = word_at s (count_at h r k)

-- coordinate c
unfoldable pub coordinate_in : List ℕ → Header → ℕ → Coordinate
coordinate_in s h c = coordinate_of (word_at s (coordinate_at h c))
