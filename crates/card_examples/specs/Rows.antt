-- Worked readings of document 01's card: a card's words, the bytes of a word cut short after them, and what reading it finds.
use Rattle.std.specs.Prelude.{Err, Ok, ℕ, List, [], ◌∷◌, ◌++◌, replicate}
use Rattle.refusal.specs.declared.Refusal.TheVariants.{InvalidQubits, Shape, InvalidCard}
use Rattle.card_layout.specs.Fields.{header_of, bits}
use Rattle.card.specs.Reading.{Reading}

-- a word's bytes, the highest first
abbrev pub bytes : ℕ → List ℕ
bytes w = bits w 56 8 ∷ bits w 48 8 ∷ bits w 40 8 ∷ bits w 32 8 ∷ bits w 24 8 ∷ bits w 16 8 ∷ bits w 8 8 ∷ bits w 0 8 ∷ []

-- the bytes of a card
unfoldable pub card : List ℕ → ℕ → List ℕ
card [] cut = replicate cut 0
card (w ∷ ws) cut = bytes w ++ card ws cut

pub record Row : Type 0 where
  pub words : List ℕ
  pub cut : ℕ
  pub reading : Reading

-- 15 at a place, and the card with this word 0
abbrev pub at : List ℕ → ℕ → ℕ → Row
at ws cut p = record { words = ws; cut = cut; reading = Err (InvalidCard p) }

abbrev pub reads : List ℕ → ℕ → Row
reads ws w = record { words = ws; cut = 0; reading = Ok (header_of w) }

-- 1, and 2 with the words wanted and found
abbrev pub qubits : List ℕ → Row
qubits ws = record { words = ws; cut = 0; reading = Err InvalidQubits }

abbrev pub length : List ℕ → ℕ → ℕ → Row
length ws a b = record { words = ws; cut = 0; reading = Err (Shape a b) }

abbrev pub rows : List Row
rows =
    -- ---- The size
    -- an empty card; 1 and 7 bytes, where the cut word is word 0
    at [] 0 0
    ∷ at [] 1 0
    ∷ at [] 7 0
    -- a word cut short after word 0
    ∷ at (0x1100000000000000 ∷ []) 5 1
    -- kind 1, n = 1: six words; one more, one less
    ∷ reads (0x1100000000000000 ∷ 1 ∷ 1 ∷ 1 ∷ 1 ∷ 1 ∷ []) 0x1100000000000000
    ∷ length (0x1100000000000000 ∷ 1 ∷ 1 ∷ 1 ∷ 1 ∷ 1 ∷ 1 ∷ []) 6 7
    ∷ length (0x1100000000000000 ∷ 1 ∷ 1 ∷ 1 ∷ 1 ∷ []) 6 5
    -- the other kinds' lengths: kind 2, d = 2; kind 3, n = 1 and 2; kind 4, n = 2; kind 5; kind 6; kind 7
    ∷ length (0x2002000000000000 ∷ []) 11 1
    ∷ length (0x3100000000000000 ∷ []) 34 1
    ∷ length (0x3200000000000000 ∷ []) 514 1
    ∷ length (0x4200000000000000 ∷ []) 259 1
    ∷ length (0x5002020100010100 ∷ []) 28 1
    ∷ length (0x6002020100000000 ∷ []) 16 1
    ∷ length (0x7002020100010000 ∷ []) 20 1
    -- ---- n
    -- n = 4 in kind 1 is refusal 1, and the length is not looked at; so is n = 0
    ∷ qubits (0x1400000000000000 ∷ [])
    ∷ qubits (0x1000000000000000 ∷ [])
    -- n = 0 with a cut last word is 15 at the cut
    ∷ at (0x1000000000000000 ∷ 0 ∷ []) 3 2
    -- n = 0 with another field that the kind lacks is 15 at 0
    ∷ at (0x1001000000000000 ∷ []) 0 0
    -- kind 4, n = 3 with absurd rotations: only word 0 is looked at
    ∷ qubits (0x4300000000000000 ∷ 0 ∷ 0xffffffffffffffff ∷ [])
    -- kinds 2 and 5 have no n
    ∷ at (0x2101000000000000 ∷ 0 ∷ 0 ∷ 0 ∷ 0 ∷ []) 0 0
    ∷ at (0x5101010000000000 ∷ []) 0 0
    -- ---- Word 0
    -- kinds 0 and 8 are unknown, whatever n
    ∷ at (0 ∷ []) 0 0
    ∷ at (0x8900000000000000 ∷ []) 0 0
    -- kind 2, d = 0 and d = 17
    ∷ at (0x2000000000000000 ∷ []) 0 0
    ∷ at (0x2011000000000000 ∷ []) 0 0
    -- a low bit
    ∷ at (0x1100000000000001 ∷ 1 ∷ 1 ∷ 1 ∷ 1 ∷ 1 ∷ []) 0 0
    -- kind 5: d = 17, 17 effects, 9 gates, 201 records, 65 coordinates; kind 7 has no coordinates, kind 6 no records
    ∷ at (0x5011000000000000 ∷ []) 0 0
    ∷ at (0x5000110000000000 ∷ []) 0 0
    ∷ at (0x5000000900000000 ∷ []) 0 0
    ∷ at (0x5000000000c90000 ∷ []) 0 0
    ∷ at (0x5000000000004100 ∷ []) 0 0
    ∷ at (0x7000000000000100 ∷ []) 0 0
    ∷ at (0x6000000000010000 ∷ []) 0 0
    -- kind 5 and kind 7 with d = 0, no effects, no records and no coordinates pass the reader
    ∷ reads (0x5000000000000000 ∷ 0 ∷ 0 ∷ 0 ∷ 0 ∷ 0 ∷ 0 ∷ 0 ∷ 0 ∷ []) 0x5000000000000000
    ∷ reads (0x7000000000000000 ∷ 0 ∷ []) 0x7000000000000000
    -- ---- Limits
    -- kind 4, n = 1: 1,025 rotations are 15, before 2; 1,024 are allowed
    ∷ at (0x4100000000000000 ∷ 0 ∷ 1025 ∷ []) 0 2
    ∷ length (0x4100000000000000 ∷ 0 ∷ 1024 ∷ []) 19 3
    -- kind 2, d = 1: 65 rotations; 64, and 0
    ∷ at (0x2001000000000000 ∷ 0 ∷ 65 ∷ 0 ∷ 0 ∷ []) 0 2
    ∷ reads (0x2001000000000000 ∷ 0 ∷ 64 ∷ 0 ∷ 0 ∷ []) 0x2001000000000000
    ∷ reads (0x2001000000000000 ∷ 0 ∷ 0 ∷ 0 ∷ 0 ∷ []) 0x2001000000000000
    -- 65,536 iterations; 256 backtracks, before a coordinate at fault
    ∷ at (0x5001010000000100 ∷ 65536 ∷ []) 0 1
    ∷ at (0x5001010000000100 ∷ 65535 ∷ 0 ∷ 0 ∷ 0 ∷ 0 ∷ 0 ∷ 256 ∷ 0 ∷ 0 ∷ 0 ∷ 0x4000000000000000 ∷ []) 0 7
    -- ---- Records, in kind 7 with one effect and one record
    -- the second gate index of a sequence of one is set; the first is used, whatever it names
    ∷ at (0x7001010000010000 ∷ 0 ∷ 0 ∷ 0 ∷ 0x0100000000000000 ∷ 0x0100000000000000 ∷ 0 ∷ 0 ∷ 0 ∷ 5 ∷ []) 0 5
    ∷ reads (0x7001010000010000 ∷ 0 ∷ 0 ∷ 0 ∷ 0x0100000000000000 ∷ 0xf000000000000000 ∷ 0 ∷ 0 ∷ 0 ∷ 5 ∷ []) 0x7001010000010000
    -- a word of gate indices that the sequence does not use at all
    ∷ at (0x7001010000010000 ∷ 0 ∷ 0 ∷ 0 ∷ 0x1000000000000000 ∷ 0x1234567887654321 ∷ 0 ∷ 1 ∷ 0 ∷ 5 ∷ []) 0 7
    -- 64 gates fill all four
    ∷ reads (0x7001010000010000 ∷ 0 ∷ 0 ∷ 0 ∷ 0x4000000000000000 ∷ 1 ∷ 1 ∷ 1 ∷ 1 ∷ 5 ∷ []) 0x7001010000010000
    -- length 65, and a cut word after it; a low bit of a record's first word
    ∷ at (0x7001010000010000 ∷ 0 ∷ 0 ∷ 0 ∷ 0x4100000000000000 ∷ []) 2 4
    ∷ at (0x7001010000010000 ∷ 0 ∷ 0 ∷ 0 ∷ 0x0000000000000001 ∷ []) 0 4
    -- a word past the layout is not looked at
    ∷ length (0x7001010000010000 ∷ 0 ∷ 0 ∷ 0 ∷ 0 ∷ 0 ∷ 0 ∷ 0 ∷ 0 ∷ 5 ∷ 0x4100000000000000 ∷ []) 10 11
    -- ---- Coordinates, in kind 5 with one effect and one coordinate
    -- kind 0; a state with a row, with an outcome; an effect with a row, and with what it needs; a gate needs all its fields
    ∷ at (0x5001010000000100 ∷ 1 ∷ 0 ∷ 0 ∷ 0 ∷ 0 ∷ 0 ∷ 255 ∷ 0 ∷ 0 ∷ 0 ∷ 0 ∷ []) 0 11
    ∷ at (0x5001010000000100 ∷ 1 ∷ 0 ∷ 0 ∷ 0 ∷ 0 ∷ 0 ∷ 255 ∷ 0 ∷ 0 ∷ 0 ∷ 0x1000000001000000 ∷ []) 0 11
    ∷ at (0x5001010000000100 ∷ 1 ∷ 0 ∷ 0 ∷ 0 ∷ 0 ∷ 0 ∷ 255 ∷ 0 ∷ 0 ∷ 0 ∷ 0x1001000000000000 ∷ []) 0 11
    ∷ at (0x5001010000000100 ∷ 1 ∷ 0 ∷ 0 ∷ 0 ∷ 0 ∷ 0 ∷ 255 ∷ 0 ∷ 0 ∷ 0 ∷ 0x2000000001000000 ∷ []) 0 11
    ∷ reads (0x5001010000000100 ∷ 1 ∷ 0 ∷ 0 ∷ 0 ∷ 0 ∷ 0 ∷ 255 ∷ 0 ∷ 0 ∷ 0 ∷ 0x2fff000000ffffff ∷ []) 0x5001010000000100
    ∷ reads (0x5001010000000100 ∷ 1 ∷ 0 ∷ 0 ∷ 0 ∷ 0 ∷ 0 ∷ 255 ∷ 0 ∷ 0 ∷ 0 ∷ 0x3fffffffffffffff ∷ []) 0x5001010000000100
    ∷ []
