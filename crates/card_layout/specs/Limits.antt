-- The limits of document 01, each in this one place.
use Rattle.std.specs.Prelude.{ℕ, ◌*◌, ◌≤◌, ◌≡◌, Bool, cond, ◌||◌, ltb, eqb}
use Rattle.card_layout.specs.declared.Header.{Header}

-- the kinds there are: 1 to 7. A further kind is one more here, a line of `limits_of` and a line of `after_word0` of Layout.antt
unfoldable pub unknown : ℕ → Bool
unknown k = eqb k 0 || ltb 7 k

-- a header by its fields: kind, n, d, effects, gates, records, coordinates
abbrev pub up_to : ℕ → ℕ → ℕ → ℕ → ℕ → ℕ → ℕ → Header
up_to k n d e g r c = record { kind = k; qubits = n; dimension = d; effects = e; gates = g; records = r; coordinates = c; rest = 0 }

-- the largest value of each field of word 0, by kind: zero where the kind lacks the field
unfoldable pub limits_of : ℕ → Header
limits_of k =
    -- kind, then n, d, effects, gates, records, coordinates
    cond (eqb k 1) (up_to 1 3 0 0 0 0 0)
    (cond (eqb k 2) (up_to 2 0 16 0 0 0 0)
    (cond (eqb k 3) (up_to 3 2 0 0 0 0 0)
    (cond (eqb k 4) (up_to 4 2 0 0 0 0 0)
    (cond (eqb k 5) (up_to 5 0 16 16 8 200 64)
    (cond (eqb k 6) (up_to 6 0 16 16 8 0 0)
    (cond (eqb k 7) (up_to 7 0 16 16 8 200 0)
    (up_to 0 0 0 0 0 0 0)))))))

-- the gates of a record's sequence
abbrev pub longest : ℕ
longest = 64

-- the controls `max_iterations` and `max_backtracks`
abbrev pub most_iterations : ℕ
most_iterations = 65535

abbrev pub most_backtracks : ℕ
most_backtracks = 255

-- rotations, m being the dimension of the matrix that is given to `eig`
abbrev pub most_rotations : ℕ → ℕ
most_rotations m = 64 * (m * m)

-- the words of a card
abbrev pub most_words : ℕ
most_words = 8192

-- h keeps the limits m, but for n: zero where the kind lacks the field, and so n where the kind has none
pub record Keeps (m h : Header) : Type 0 where
  pub qubits : m.qubits ≡ 0 → h.qubits ≡ 0
  pub dimension : h.dimension ≤ m.dimension
  pub effects : h.effects ≤ m.effects
  pub gates : h.gates ≤ m.gates
  pub records : h.records ≤ m.records
  pub coordinates : h.coordinates ≤ m.coordinates
  pub rest : h.rest ≤ m.rest

-- what the limits come to, whatever the kind (`limited` of proofs/EachKind.antt)
pub record Limited (h : Header) : Type 0 where
  pub least : 1 ≤ h.kind
  pub most : h.kind ≤ 7
  pub qubits : h.qubits ≤ 3
  pub dimension : h.dimension ≤ 16
  pub effects : h.effects ≤ 16
  pub gates : h.gates ≤ 8
  pub records : h.records ≤ 200
  pub coordinates : h.coordinates ≤ 64
  pub rest : h.rest ≡ 0
