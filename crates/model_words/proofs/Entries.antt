-- Where a model's numbers stand among its words, and on the card. Assumes nothing.
use Prim.Native.Nat.{ℕ, suc, ◌+◌, ◌*◌, ◌<◌}
use mathlib.Core.Path.{◌≡◌, ap, ◌∙◌}
use mathlib.Core.List.{List}
use native.Mathlib.Omega.{arith}
use lib.ListN.{length, get_or, drop, length-append, get_or-append}
use lib.Seq.{get_or-drop}
use lib.Ieee.{Float, nan}
use Rattle.lists.specs.Build.{joined}
use Rattle.lists.proofs.Filling.{get_or-build}
use Rattle.lists.proofs.Joined.{joined-entry, behind}
use Rattle.numbers.specs.Number.{word}
use Rattle.numbers.specs.Slice.{at, number_at, numbers_at, words_of}
use Rattle.numbers.proofs.Slices.{length-numbers, length-words}
use Rattle.card_layout.specs.declared.Header.{Header}
use Rattle.card_places.specs.Places.{model_words, state_at, gate_at}
use Rattle.card_parts.specs.Model.{name_of, gate_of}
use Rattle.model_words.specs.Words.{vector_numbers, numbers_of, gate_words, gates_words, model_words_of}
use Rattle.model_words.proofs.Sizes.{length-gate, length-gates, length-gate-numbers}

module _ (s : List ℕ) (h : Header) where
  -- ---- among the words of a model with any numbers

  module _ (numbers : List Float) where
    pub length-model-words : length (model_words_of s h numbers) ≡ model_words h
    unfolding model_words_of gates_words
    length-model-words =
        omega (arith, length-append (words_of (vector_numbers h) numbers) (gates_words s h (drop (vector_numbers h) numbers)), length-words (vector_numbers h) numbers, length-gates s h h.gates (drop (vector_numbers h) numbers))

    -- number p of the state and the effects
    pub vector-word : (p : ℕ) → p < vector_numbers h → get_or (model_words_of s h numbers) p 0 ≡ word (at numbers p)
    unfolding model_words_of words_of
    vector-word p l =
        get_or-append (words_of (vector_numbers h) numbers) _ 0 p (omega (arith, length-words (vector_numbers h) numbers))
        ∙ get_or-build 0 (vector_numbers h) p (λ i. word (at numbers i)) l

    -- word j of gate g
    gate-entry : (g j : ℕ) → g < h.gates → j < 1 + h.dimension * h.dimension
        → get_or (model_words_of s h numbers) (vector_numbers h + (g * (1 + h.dimension * h.dimension) + j)) 0 ≡ get_or (gate_words s h g (drop (g * (h.dimension * h.dimension)) (drop (vector_numbers h) numbers))) j 0
    unfolding model_words_of gates_words
    gate-entry g j l k =
        behind 0 (words_of (vector_numbers h) numbers) _ (vector_numbers h) _ (length-words (vector_numbers h) numbers)
        ∙ joined-entry 0 h.gates (1 + h.dimension * h.dimension) g j _ (λ i. length-gate s h i (drop (i * (h.dimension * h.dimension)) (drop (vector_numbers h) numbers))) l k

    pub name-word : (g : ℕ) → g < h.gates → get_or (model_words_of s h numbers) (vector_numbers h + (g * (1 + h.dimension * h.dimension) + 0)) 0 ≡ name_of s h g
    unfolding gate_words
    name-word g l = gate-entry g 0 l (omega arith)

    -- number j of gate g
    pub gate-word : (g j : ℕ) → g < h.gates → j < h.dimension * h.dimension
        → get_or (model_words_of s h numbers) (vector_numbers h + (g * (1 + h.dimension * h.dimension) + (1 + j))) 0 ≡ word (at numbers (vector_numbers h + (g * (h.dimension * h.dimension) + j)))
    unfolding gate_words words_of
    gate-word g j l k =
        let m = h.dimension * h.dimension in
        let e : 1 + j ≡ suc j = omega arith in
        gate-entry g (1 + j) l (omega arith)
        ∙ ap (λ (i : ℕ). get_or (gate_words s h g (drop (g * m) (drop (vector_numbers h) numbers))) i 0) e
        ∙ get_or-build 0 m j (λ i. word (at (drop (g * m) (drop (vector_numbers h) numbers)) i)) k
        ∙ ap word (get_or-drop (g * m) (drop (vector_numbers h) numbers) j nan ∙ get_or-drop (vector_numbers h) numbers (g * m + j) nan)

  -- ---- on the card

  pub vector-number : (p : ℕ) → p < vector_numbers h → at (numbers_of s h) p ≡ number_at s (state_at h + p)
  unfolding numbers_of numbers_at
  vector-number p l =
      get_or-append (numbers_at s (state_at h) (vector_numbers h)) _ nan p (omega (arith, length-numbers s (state_at h) (vector_numbers h)))
      ∙ get_or-build nan (vector_numbers h) p (λ i. number_at s (state_at h + i)) l

  pub gate-number : (g j : ℕ) → g < h.gates → j < h.dimension * h.dimension → at (numbers_of s h) (vector_numbers h + (g * (h.dimension * h.dimension) + j)) ≡ number_at s (gate_at h g + j)
  unfolding numbers_of gate_of numbers_at
  gate-number g j l k =
      let m = h.dimension * h.dimension in
      behind nan (numbers_at s (state_at h) (vector_numbers h)) (joined h.gates (gate_of s h)) (vector_numbers h) (g * m + j) (length-numbers s (state_at h) (vector_numbers h))
      ∙ joined-entry nan h.gates m g j (gate_of s h) (length-gate-numbers s h) l k
      ∙ get_or-build nan m j (λ i. number_at s (gate_at h g + i)) k
