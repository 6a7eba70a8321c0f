-- The numbers of a model, in the card's order without the names, and its words as a sheet shows them (document 01, `model`).
use Rattle.std.specs.Prelude.{ℕ, ◌+◌, ◌*◌, List, ◌∷◌, ◌++◌, drop, Float}
use Rattle.lists.specs.Build.{joined}
use Rattle.numbers.specs.Slice.{numbers_at, words_of}
use Rattle.card_layout.specs.declared.Header.{Header}
use Rattle.card_places.specs.Places.{state_at}
use Rattle.card_parts.specs.Model.{name_of, gate_of}

-- the state's and the effects' numbers, and with the gates' all of them
abbrev pub vector_numbers : Header → ℕ
vector_numbers h = h.dimension + h.effects * h.dimension

abbrev pub model_numbers : Header → ℕ
model_numbers h = vector_numbers h + h.gates * (h.dimension * h.dimension)

-- those of the card's model: the state's and the effects' lie in a row, then each gate's
unfoldable pub numbers_of : List ℕ → Header → List Float
numbers_of s h = numbers_at s (state_at h) (vector_numbers h) ++ joined h.gates (gate_of s h)

-- gate g, whose numbers come first: its name as it stands on the card, then its numbers
unfoldable pub gate_words : List ℕ → Header → ℕ → List Float → List ℕ
gate_words s h g numbers = name_of s h g ∷ words_of (h.dimension * h.dimension) numbers

-- gate after gate
unfoldable pub gates_words : List ℕ → Header → List Float → List ℕ
gates_words s h numbers = joined h.gates (λ g. gate_words s h g (drop (g * (h.dimension * h.dimension)) numbers))

-- the state, the effects, the gates
unfoldable pub model_words_of : List ℕ → Header → List Float → List ℕ
model_words_of s h numbers = words_of (vector_numbers h) numbers ++ gates_words s h (drop (vector_numbers h) numbers)
