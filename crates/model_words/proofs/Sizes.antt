-- How many words the gates have, and a name before its numbers. Assumes nothing.
use Prim.Native.Nat.{ℕ, ◌+◌, ◌-◌, ◌*◌, ◌≤◌}
use mathlib.Core.Path.{◌≡◌, sym, ap, ◌∙◌}
use mathlib.Core.List.{List, [], ◌∷◌, ◌++◌, append-nil}
use native.Mathlib.Nat.{not-suc-le-zero}
use native.Mathlib.Omega.{arith}
use lib.ListN.{length, take, drop, set, length-append, drop_of_length-le}
use lib.Seq.{take_all}
use lib.Ieee.{Float}
use Rattle.lists.specs.Build.{over, joined}
use Rattle.lists.proofs.Joined.{length-joined, over-onto, rest-lent}
use Rattle.lists.proofs.Parts.{over-front}
use Rattle.numbers.specs.Slice.{numbers_at, words_of}
use Rattle.numbers.proofs.Slices.{length-numbers, length-words}
use Rattle.sizes.proofs.Small.{product_le}
use Rattle.card_layout.specs.declared.Header.{Header}
use Rattle.card_layout.specs.Limits.{Limited}
use Rattle.card_places.specs.Places.{state_at}
use Rattle.card_parts.specs.Model.{gate_of}
use Rattle.model_words.specs.Words.{vector_numbers, model_numbers, numbers_of, gate_words, gates_words, model_words_of}

-- a card's gates have at most 2,048 numbers
pub gates-most : (h : Header) → Limited h → h.gates * (h.dimension * h.dimension) ≤ 2048
gates-most h l = product_le h.gates (h.dimension * h.dimension) 8 256 l.gates (product_le h.dimension h.dimension 16 16 l.dimension l.dimension)

module _ (s : List ℕ) (h : Header) where
  pub length-gate : (g : ℕ) (numbers : List Float) → length (gate_words s h g numbers) ≡ 1 + h.dimension * h.dimension
  unfolding gate_words
  length-gate g numbers = omega (arith, length-words (h.dimension * h.dimension) numbers)

  -- the words of the first g gates
  pub length-gates : (g : ℕ) (numbers : List Float) → length (joined g (λ g. gate_words s h g (drop (g * (h.dimension * h.dimension)) numbers))) ≡ g * (1 + h.dimension * h.dimension)
  length-gates g numbers = length-joined g (1 + h.dimension * h.dimension) _ (λ i l. length-gate i (drop (i * (h.dimension * h.dimension)) numbers))

-- numbers' words were written behind the first word, which was lent to nobody; then the name went there
pub name-first : (l ws ys : List ℕ) (name e m : ℕ) → e ≡ length l → 1 ≤ length l → length ws ≡ m → ys ≡ ws ++ drop m (take (e - 1) (drop 1 l))
    → set (take 1 l ++ (ys ++ drop (e - 1) (drop 1 l))) 0 name ≡ over (name ∷ ws) l
name-first [] ws ys name e m h k n y = absurd (not-suc-le-zero k)
name-first (x ∷ l) ws ys name e m h k n y =
    let q : length l ≤ e - 1 = omega arith in
    ap (λ (t : List ℕ). name ∷ t) (ap (λ (t : List ℕ). ys ++ t) (drop_of_length-le l {i = e - 1} q) ∙ append-nil ys ∙ y ∙ rw (take_all (e - 1) l q, n))

-- the vectors' words were written, and then the gates' behind them
pub model_written : (s : List ℕ) (h : Header) (numbers : List Float) (l : List ℕ) (v e f : ℕ) (out ys : List ℕ) → v ≡ vector_numbers h → e ≡ length out → f ≡ length numbers
    → out ≡ words_of v numbers ++ drop v l → ys ≡ over (gates_words s h (take (f - v) (drop v numbers))) (take (e - v) (drop v out))
    → take v out ++ (ys ++ drop (e - v) (drop v out)) ≡ over (model_words_of s h numbers) l
unfolding model_words_of
model_written s h numbers l v e f out ys q k m o y =
    over-onto (words_of v numbers) (gates_words s h (drop v numbers)) l v e out ys (length-words v numbers) k
    (o ∙ ap (λ (j : ℕ). words_of v numbers ++ drop j l) (sym (length-words v numbers)))
    (y ∙ ap (λ (x : List Float). over (gates_words s h x) (take (e - v) (drop v out))) (rest-lent v f numbers m))
    ∙ ap (λ (v : ℕ). over (words_of v numbers ++ gates_words s h (drop v numbers)) l) q

-- ---- the numbers of the card's model

module _ (s : List ℕ) (h : Header) where
  pub length-gate-numbers : (g : ℕ) → length (gate_of s h g) ≡ h.dimension * h.dimension
  unfolding gate_of
  length-gate-numbers g = length-numbers s _ _

  pub length-gates-numbers : (g : ℕ) → length (joined g (gate_of s h)) ≡ g * (h.dimension * h.dimension)
  length-gates-numbers g = length-joined g (h.dimension * h.dimension) (gate_of s h) (λ i _. length-gate-numbers i)

  pub length-model : length (numbers_of s h) ≡ model_numbers h
  unfolding numbers_of
  length-model = omega (arith, length-append (numbers_at s (state_at h) (vector_numbers h)) (joined h.gates (gate_of s h)), length-numbers s (state_at h) (vector_numbers h), length-gates-numbers h.gates)

  -- the vectors' numbers were written, and then the gates' behind them
  pub model_loaded : (l : List Float) (p v e : ℕ) (out ys : List Float) → p ≡ state_at h → v ≡ vector_numbers h → e ≡ length out → out ≡ numbers_at s p v ++ drop v l
      → ys ≡ over (joined h.gates (gate_of s h)) (take (e - v) (drop v out)) → take v out ++ (ys ++ drop (e - v) (drop v out)) ≡ over (numbers_of s h) l
  unfolding numbers_of
  model_loaded l p v e out ys a q k o y =
      over-onto (numbers_at s p v) (joined h.gates (gate_of s h)) l v e out ys (length-numbers s p v) k (over-front (numbers_at s p v) l (length-numbers s p v) o) y
      ∙ rw (a, q)
