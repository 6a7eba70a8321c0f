-- The parts of a card's model, and the transform of kind 6 (document 01, "The card").
use Rattle.std.specs.Prelude.{ℕ, ◌+◌, ◌*◌, List, Float}
use Rattle.lists.specs.Build.{build}
use Rattle.numbers.specs.Word.{word_at}
use Rattle.numbers.specs.Slice.{numbers_at}
use Rattle.card_layout.specs.declared.Header.{Header}
use Rattle.card_places.specs.Places.{model_at, model_words, state_at, effect_at, gate_name_at, gate_at, transform_at}

-- all its words, names too
unfoldable pub model_of : List ℕ → Header → List ℕ
model_of s h = build (model_words h) (λ i. word_at s (model_at h + i))

unfoldable pub state_of : List ℕ → Header → List Float
state_of s h = numbers_at s (state_at h) h.dimension

unfoldable pub effect_of : List ℕ → Header → ℕ → List Float
effect_of s h k = numbers_at s (effect_at h k) h.dimension

-- gate g: its name word, and its numbers by rows
unfoldable pub name_of : List ℕ → Header → ℕ → ℕ
name_of s h g = word_at s (gate_name_at h g)

unfoldable pub gate_of : List ℕ → Header → ℕ → List Float
gate_of s h g = numbers_at s (gate_at h g) (h.dimension * h.dimension)

unfoldable pub transform_of : List ℕ → Header → List Float
transform_of s h = numbers_at s (transform_at h) (h.dimension * h.dimension)
