-- The words that hold given fields: what reading the fields undoes (proofs/Writing.antt), and what a writer of cards writes (document 02).
use Rattle.std.specs.Prelude.{ℕ, ◌+◌, ◌*◌, ◌^◌, ◌<◌}
use Rattle.card_layout.specs.declared.Header.{Header}
use Rattle.card_layout.specs.declared.Coordinate.{Coordinate}

-- word 0 of a header
unfoldable pub word0_of : Header → ℕ
word0_of h =
    h.kind * 2 ^ 60 + h.qubits * 2 ^ 56 + h.dimension * 2 ^ 48 + h.effects * 2 ^ 40 + h.gates * 2 ^ 32 + h.records * 2 ^ 16 + h.coordinates * 2 ^ 8
    + h.rest

-- the word of a coordinate
unfoldable pub coordinate_word : Coordinate → ℕ
coordinate_word c = c.kind * 2 ^ 60 + c.which * 2 ^ 48 + c.row * 2 ^ 24 + c.column

-- the first word of a record whose sequence has this length
unfoldable pub length_word : ℕ → ℕ
length_word n = n * 2 ^ 56

-- each field is within its bits
pub record Sized (h : Header) : Type 0 where
  pub kind : h.kind < 2 ^ 4
  pub qubits : h.qubits < 2 ^ 4
  pub dimension : h.dimension < 2 ^ 8
  pub effects : h.effects < 2 ^ 8
  pub gates : h.gates < 2 ^ 8
  pub records : h.records < 2 ^ 16
  pub coordinates : h.coordinates < 2 ^ 8
  pub rest : h.rest < 2 ^ 8

pub record SizedCoordinate (c : Coordinate) : Type 0 where
  pub kind : c.kind < 2 ^ 4
  pub which : c.which < 2 ^ 12
  pub row : c.row < 2 ^ 24
  pub column : c.column < 2 ^ 24
