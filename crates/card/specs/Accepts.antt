-- What an accepted card has: all that later layers need to know of it. That acceptance gives it is `accepted` of proofs/Accepted.antt.
use Rattle.std.specs.Prelude.{ℕ, ◌+◌, ◌*◌, ◌^◌, ◌≤◌, ◌<◌, false, List, ◌≡◌, length, get_or}
use Rattle.numbers.specs.Word.{word_at}
use Rattle.card_layout.specs.declared.Header.{Header}
use Rattle.card_layout.specs.declared.Coordinate.{Coordinate}
use Rattle.card_layout.specs.Limits.{limits_of, Keeps, most_iterations, most_backtracks, most_rotations}
use Rattle.card_layout.specs.Layout.{number, layout, breaks}
use Rattle.card_places.specs.Places.{wanted_words, coordinate_at, record_at, transform_at}
use Rattle.card_places.specs.Shape.{Shaped}
use Rattle.card_parts.specs.Parts.{Sequence, coordinate_in}
use Rattle.card.specs.Reading.{header}

-- kind 1, `linear_inversion`: tolerance at place 1, 4^n expectations from 2
pub record InversionCard (s : List ℕ) (h : Header) : Type 0 where
  pub some : 1 ≤ h.qubits
  pub few : h.qubits ≤ 3
  pub words : length s ≡ 8 * (2 + 4 ^ h.qubits)

-- kind 2, `project_density_with_tolerance`: tolerance at 1, rotations at 2, d·d pairs from 3
pub record ProjectionCard (s : List ℕ) (h : Header) : Type 0 where
  pub some : 1 ≤ h.dimension
  pub few : h.dimension ≤ 16
  pub rotations : word_at s 2 ≤ most_rotations h.dimension
  pub words : length s ≡ 8 * (3 + 2 * (h.dimension * h.dimension))

-- kind 3, `process_linear_inversion`: tolerance at 1, 4^n input vectors from 2, then 4^n output vectors
pub record ProcessCard (s : List ℕ) (h : Header) : Type 0 where
  pub some : 1 ≤ h.qubits
  pub few : h.qubits ≤ 2
  pub words : length s ≡ 8 * (2 + 2 * (4 ^ h.qubits * 4 ^ h.qubits))

-- kind 4, the three tests of a transfer matrix: tolerance at 1, rotations at 2, 16^n values from 3
pub record TransferCard (s : List ℕ) (h : Header) : Type 0 where
  pub some : 1 ≤ h.qubits
  pub few : h.qubits ≤ 2
  pub rotations : word_at s 2 ≤ most_rotations (4 ^ h.qubits)
  pub words : length s ≡ 8 * (3 + 4 ^ h.qubits * 4 ^ h.qubits)

-- kind 5, `reconstruct_gate_set`: the controls stand at 1 to 8
pub record FitCard (s : List ℕ) (h : Header) : Type 0 where
  pub iterations : word_at s 1 ≤ most_iterations
  pub backtracks : word_at s 7 ≤ most_backtracks
  pub words : length s ≡ 8 * coordinate_at h h.coordinates

-- kind 6, `gauge_transform`: the model from 1, then d·d numbers
pub record GaugeCard (s : List ℕ) (h : Header) : Type 0 where
  pub words : length s ≡ 8 * (transform_at h + h.dimension * h.dimension)

-- kind 7, `fit_diagnostics_with_tolerance`: tolerance at 1, the model from 2, then the records
pub record DiagnosticsCard (s : List ℕ) (h : Header) : Type 0 where
  pub words : length s ≡ 8 * record_at h h.records

-- a coordinate: its kind, and the fields that its kind does not need
pub record Names (c : Coordinate) : Type 0 where
  pub least : 1 ≤ c.kind
  pub most : c.kind ≤ 3
  pub state : c.kind ≡ 1 → (c.which ≡ 0) × (c.row ≡ 0)
  pub effect : c.kind ≡ 2 → c.row ≡ 0

-- the header's limits and the places of all parts come with `shaped` (card_places, proofs/Within.antt)
pub record Accepts (s : List ℕ) (h : Header) : Type 0 where
  pub header : h ≡ header s
  pub shaped : Shaped s h
  pub fields : Keeps (limits_of h.kind) h
  pub kind1 : h.kind ≡ 1 → InversionCard s h
  pub kind2 : h.kind ≡ 2 → ProjectionCard s h
  pub kind3 : h.kind ≡ 3 → ProcessCard s h
  pub kind4 : h.kind ≡ 4 → TransferCard s h
  pub kind5 : h.kind ≡ 5 → FitCard s h
  pub kind6 : h.kind ≡ 6 → GaugeCard s h
  pub kind7 : h.kind ≡ 7 → DiagnosticsCard s h
  pub sequence : (r : ℕ) → r < h.records → Sequence s h r
  pub coordinate : (c : ℕ) → c < h.coordinates → Names (coordinate_in s h c)
  -- every word keeps the rule of its role
  pub rules : (p : ℕ) → p < wanted_words h → breaks s p (get_or (layout h) p number) ≡ false
