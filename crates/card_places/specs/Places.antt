-- The place of each thing on a card with the header h, and how many words the card has (document 01's table of kinds). That these are the places of
-- the layout is proofs/Standing.antt.
use Rattle.std.specs.Prelude.{ℕ, ◌+◌, ◌*◌, ◌/◌, cond, length, eqb}
use Rattle.card_layout.specs.declared.Header.{Header}
use Rattle.card_layout.specs.Layout.{layout}

-- as many words as the layout has, word 0 included
abbrev pub wanted_words : Header → ℕ
wanted_words h = length (layout h)

-- the model of kinds 5 to 7: after the 8 controls, after word 0, after the tolerance
unfoldable pub model_at : Header → ℕ
model_at h = cond (eqb h.kind 5) 9 (cond (eqb h.kind 6) 1 2)

abbrev pub model_words : Header → ℕ
model_words h = h.dimension + h.effects * h.dimension + h.gates * (1 + h.dimension * h.dimension)

-- the state's numbers, and those of effect k
abbrev pub state_at : Header → ℕ
state_at h = model_at h

abbrev pub effect_at : Header → ℕ → ℕ
effect_at h k = model_at h + h.dimension + k * h.dimension

-- the name of gate g, and its numbers by rows
abbrev pub gate_name_at : Header → ℕ → ℕ
gate_name_at h g = model_at h + h.dimension + h.effects * h.dimension + g * (1 + h.dimension * h.dimension)

abbrev pub gate_at : Header → ℕ → ℕ
gate_at h g = gate_name_at h g + 1

-- what follows the model: the transform of kind 6, the records of kinds 5 and 7
abbrev pub after_model : Header → ℕ
after_model h = model_at h + model_words h

abbrev pub transform_at : Header → ℕ
transform_at h = after_model h

-- the words of one record
abbrev pub record_words : Header → ℕ
record_words h = 5 + h.effects

-- record r: its first word, the word that has gate index k, its count of outcome k
abbrev pub record_at : Header → ℕ → ℕ
record_at h r = after_model h + r * record_words h

abbrev pub index_at : Header → ℕ → ℕ → ℕ
index_at h r k = record_at h r + (1 + k / 16)

abbrev pub count_at : Header → ℕ → ℕ → ℕ
count_at h r k = record_at h r + (5 + k)

-- coordinate c
abbrev pub coordinate_at : Header → ℕ → ℕ
coordinate_at h c = after_model h + h.records * record_words h + c
