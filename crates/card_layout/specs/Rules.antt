-- The rule of each word that has one (document 01, "The card"). A word that breaks its rule is at fault: refusal 15 at its place.
use Rattle.std.specs.Prelude.{ℕ, ◌-◌, ◌*◌, ◌%◌, ◌^◌, min, Bool, true, false, cond, not, ◌||◌, ◌&&◌, ltb, eqb}
use Rattle.card_layout.specs.declared.Header.{Header}
use Rattle.card_layout.specs.declared.Coordinate.{Coordinate}
use Rattle.card_layout.specs.Fields.{length_of, rest_of}
use Rattle.card_layout.specs.Limits.{unknown, limits_of, longest}

-- a field of h other than n is past its limit in m, or is one that the kind lacks; so is n where the kind has no n
unfoldable pub past : Header → Header → Bool
past m h =
    (eqb m.qubits 0 && ltb 0 h.qubits)
    || (ltb m.dimension h.dimension
    || (ltb m.effects h.effects
    || (ltb m.gates h.gates
    || (ltb m.records h.records
    || (ltb m.coordinates h.coordinates
    || ltb m.rest h.rest)))))

-- kind 2's d is at least 1
unfoldable pub no_matrix : Header → Bool
no_matrix h = eqb h.kind 2 && eqb h.dimension 0

-- word 0: an unknown kind, a limit passed, a field that the kind lacks, a bit that should be zero
unfoldable pub word0_breaks : Header → Bool
word0_breaks h = unknown h.kind || (no_matrix h || past (limits_of h.kind) h)

-- n, where the kind has it, is 0 or above its limit: refusal 1, and of the words only word 0 is looked at
unfoldable pub qubits_break : Header → Bool
qubits_break h =
    ltb 0 (limits_of h.kind).qubits && (eqb h.qubits 0 || ltb (limits_of h.kind).qubits h.qubits)

-- a record's first word: at most 64 gates, the other 56 bits zero
unfoldable pub sequence_breaks : ℕ → Bool
sequence_breaks w = ltb longest (length_of w) || not (eqb (rest_of w) 0)

-- how many of the 16 gate indices of a record's index word j a sequence of this length uses
abbrev pub used_in : ℕ → ℕ → ℕ
used_in len j = min 16 (len - 16 * j)

-- index word j of a record whose sequence has this length: the unused gate indices, the last ones of the word, are zero
unfoldable pub indices_break : ℕ → ℕ → ℕ → Bool
indices_break len j w = not (eqb (w % 2 ^ (4 * (16 - used_in len j))) 0)

-- a coordinate: 1 state, needs its index; 2 effect, needs outcome and index; 3 gate, needs gate, row and column
unfoldable pub coordinate_breaks : Coordinate → Bool
coordinate_breaks c =
    cond (eqb c.kind 1) (not (eqb c.which 0) || not (eqb c.row 0))
    (cond (eqb c.kind 2) (not (eqb c.row 0))
    (cond (eqb c.kind 3) false
    true))
