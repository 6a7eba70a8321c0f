-- The layout of each kind: what each word of the card is, from word 0 on (document 01's table of kinds). Its length is the number of words that the
-- card must have.
use Rattle.std.specs.Prelude.{ℕ, zero, suc, ◌+◌, ◌-◌, ◌*◌, ◌^◌, Bool, false, cond, ◌&&◌, List, [], ◌∷◌, ◌++◌, ltb, eqb}
use Rattle.numbers.specs.Word.{word_at, words_in}
use Rattle.card_layout.specs.declared.Header.{Header}
use Rattle.card_layout.specs.Fields.{header_of, coordinate_of, length_of}
use Rattle.card_layout.specs.Limits.{most_iterations, most_backtracks, most_rotations}
use Rattle.card_layout.specs.Rules.{word0_breaks, sequence_breaks, indices_break, coordinate_breaks}

-- what a word is
pub data Role : Type 0 where
  word0 : Role  -- kind and sizes
  number : Role  -- f64 bits
  name : Role  -- a gate's name
  count : Role  -- a record's count of an outcome
  at_most : ℕ → Role  -- a plain whole number with a limit
  sequence : Role  -- a record's first word
  indices : ℕ → Role  -- a record's word j of gate indices
  coordinate : Role

-- a part of the layout n times, one after the other
unfoldable pub times : ℕ → List Role → List Role
times zero part = []
times (suc n) part = times n part ++ part

-- n numbers
abbrev pub numbers : ℕ → List Role
numbers n = times n (number ∷ [])

-- the state, the effects, and the gates, each after its name
unfoldable pub model_roles : ℕ → ℕ → ℕ → List Role
model_roles d e g = numbers d ++ (times e (numbers d) ++ times g (name ∷ numbers (d * d)))

-- a sequence: its length, and 4 words of 16 four-bit gate indices
abbrev pub sequence_roles : List Role
sequence_roles = sequence ∷ indices 0 ∷ indices 1 ∷ indices 2 ∷ indices 3 ∷ []

-- a record: a sequence, then one count per effect
unfoldable pub record_roles : ℕ → List Role
record_roles e = sequence_roles ++ times e (count ∷ [])

-- max_iterations, initial_step, finite_difference_step, gradient_tolerance, objective_tolerance, probability_tolerance, max_backtracks, anchor_strength
abbrev pub control_roles : List Role
control_roles = at_most most_iterations ∷ number ∷ number ∷ number ∷ number ∷ number ∷ at_most most_backtracks ∷ number ∷ []

-- document 01's table: the words after word 0, by kind. A kind that is not there has none
unfoldable pub after_word0 : Header → List Role
after_word0 h =
    -- tolerance, 4^n expectations
    cond (eqb h.kind 1) (number ∷ numbers (4 ^ h.qubits))
    -- tolerance, rotations, d·d pairs
    (cond (eqb h.kind 2) (number ∷ at_most (most_rotations h.dimension) ∷ times (h.dimension * h.dimension) (number ∷ number ∷ []))
    -- tolerance, 4^n input vectors, 4^n output vectors
    (cond (eqb h.kind 3) (number ∷ (times (4 ^ h.qubits) (numbers (4 ^ h.qubits)) ++ times (4 ^ h.qubits) (numbers (4 ^ h.qubits))))
    -- tolerance, rotations, 16^n transfer values
    (cond (eqb h.kind 4) (number ∷ at_most (most_rotations (4 ^ h.qubits)) ∷ numbers (16 ^ h.qubits))
    -- 8 controls, model, records, coordinates
    (cond (eqb h.kind 5)
    (control_roles
    ++ (model_roles h.dimension h.effects h.gates
    ++ (times h.records (record_roles h.effects)
    ++ times h.coordinates (coordinate ∷ []))))
    -- model, d·d transform
    (cond (eqb h.kind 6) (model_roles h.dimension h.effects h.gates ++ numbers (h.dimension * h.dimension))
    -- tolerance, model, records
    (cond (eqb h.kind 7)
    (number ∷ (model_roles h.dimension h.effects h.gates ++ times h.records (record_roles h.effects)))
    []))))))

unfoldable pub layout : Header → List Role
layout h = word0 ∷ after_word0 h

-- the word at place p, as a word of this role, breaks the role's rule; no number, name or count does
unfoldable pub breaks : List ℕ → ℕ → Role → Bool
breaks s p word0 = word0_breaks (header_of (word_at s p))
breaks s p number = false
breaks s p name = false
breaks s p count = false
breaks s p (at_most m) = ltb m (word_at s p)
breaks s p sequence = sequence_breaks (word_at s p)
breaks s p (indices j) = indices_break (length_of (word_at s (p - (j + 1)))) j (word_at s p)
breaks s p coordinate = coordinate_breaks (coordinate_of (word_at s p))

-- the word is there, and breaks its role's rule
unfoldable pub faulty : List ℕ → ℕ → Role → Bool
faulty s p r = breaks s p r && ltb p (words_in s)
