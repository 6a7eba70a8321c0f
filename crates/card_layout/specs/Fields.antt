-- The fields of the card's words, from the highest bit (document 01, "The card").
use Rattle.std.specs.Prelude.{ℕ, ◌*◌, ◌-◌, ◌/◌, ◌%◌, ◌^◌}
use Rattle.card_layout.specs.declared.Header.{Header}
use Rattle.card_layout.specs.declared.Coordinate.{Coordinate}

-- n bits of the word w, with `low` bits below them
abbrev pub bits : ℕ → ℕ → ℕ → ℕ
bits w low n = w / 2 ^ low % 2 ^ n

-- word 0, whose last 8 bits are zero
abbrev pub header_of : ℕ → Header
header_of w =
    record {
      kind = bits w 60 4;
      qubits = bits w 56 4;
      dimension = bits w 48 8;
      effects = bits w 40 8;
      gates = bits w 32 8;
      records = bits w 16 16;
      coordinates = bits w 8 8;
      rest = w % 2 ^ 8;
    }

-- a coordinate: `which` is an outcome or a gate, `column` an index or a column
abbrev pub coordinate_of : ℕ → Coordinate
coordinate_of w =
    record {
      kind = bits w 60 4;
      which = bits w 48 12;
      row = bits w 24 24;
      column = w % 2 ^ 24;
    }

-- a record's first word: length 8 bits, zero 56. The fields of document 02's germs would stand among the 56
abbrev pub length_of : ℕ → ℕ
length_of w = bits w 56 8

abbrev pub rest_of : ℕ → ℕ
rest_of w = w % 2 ^ 56

-- a word of 16 four-bit gate indices: the one with number i, from the highest
abbrev pub index_of : ℕ → ℕ → ℕ
index_of w i = bits w (60 - 4 * i) 4
