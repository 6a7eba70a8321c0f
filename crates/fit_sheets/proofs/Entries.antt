-- The entries of an accepted fit card: where each stands among the sheet's words and on the card, and that it is finite. Assumes nothing.
use Rattle.refusal.specs.Verdicts.{good}
use Prim.Native.Nat.{ℕ, suc, ◌+◌, ◌*◌, ◌<◌}
use mathlib.Core.Path.{◌≡◌, refl, sym, ap, subst, ◌∙◌}
use mathlib.Core.Bool.{Bool, true, false, cond, ◌&&◌}
use mathlib.Core.List.{List, [], ◌∷◌, map}
use native.Mathlib.Omega.{arith}
use borrow.Author.Tests.{ltb-true}
use lib.Dec.{eqb, ltb}
use lib.ListN.{length, get_or}
use lib.Ieee.{Float, binary64}
use lib.Ieee.Bits.{to_bits-of_bits}
use Rattle.lists.specs.Fold.{fold}
use Rattle.lists.proofs.Parts.{entry-fits}
use Rattle.booleans.proofs.Joined.{and_both}
use Rattle.numbers.specs.Number.{word, finite}
use Rattle.numbers.specs.Word.{word_at}
use Rattle.numbers.specs.Slice.{at, number_at, numbers_at, all_finite}
use Rattle.numbers.proofs.Finite.{each-finite}
use Rattle.numbers.proofs.Slices.{length-numbers}
use Rattle.significand.proofs.Pattern.{no_nan}
use Rattle.card_layout.specs.declared.Header.{Header}
use Rattle.card_layout.specs.declared.Coordinate.{Coordinate}
use Rattle.card_places.specs.Places.{model_at, model_words, state_at, effect_at, gate_at}
use Rattle.card_parts.specs.Model.{state_of, effect_of, gate_of}
use Rattle.model.specs.Checked.{checked_of}
use Rattle.model.proofs.Tests.{number-at}
use Rattle.model.proofs.Finite.{state-finite, effect-finite, gate-finite}
use Rattle.model_words.specs.Words.{vector_numbers, numbers_of, model_words_of}
use Rattle.model_words.proofs.Entries.{vector-word, gate-word, vector-number, gate-number}
use Rattle.parameters.specs.Parameters.{has_entry, place_of}
use Rattle.fit_sheets.specs.Buyer.{name_place, word_place}

-- ---- a word that holds a finite number is that number's word

module _ (s : List ℕ) (bytes : (i : ℕ) → get_or s i 0 < 256) where
  word_bound : (p : ℕ) → word_at s p < 0x1_0000_0000_0000_0000
  unfolding word_at fold
  word_bound p =
      omega (arith, bytes (p * 8 + 0), bytes (p * 8 + 1), bytes (p * 8 + 2), bytes (p * 8 + 3), bytes (p * 8 + 4), bytes (p * 8 + 5), bytes (p * 8 + 6), bytes (p * 8 + 7))

  pub same_word : (p : ℕ) → finite (number_at s p) ≡ true → word (number_at s p) ≡ word_at s p
  same_word p e = to_bits-of_bits binary64 (word_at s p) (word_bound p) (no_nan (number_at s p) e)

-- all of the numbers at some places
pub finite-map : (m : List Float) (ps : List ℕ) → ((i : ℕ) → i < length ps → finite (at m (get_or ps i 0)) ≡ true) → all_finite (map (at m) ps) ≡ true
unfolding all_finite
finite-map m [] f = refl
finite-map m (p ∷ ps) f = ap (λ (b : Bool). b && all_finite (map (at m) ps)) (f 0 (omega arith)) ∙ finite-map m ps (λ i l. f (suc i) (omega arith))

-- ---- an entry that exists, by what a coordinate names

module _ (h : Header) (c : Coordinate) (Q : ℕ → ℕ → Type 0)
    (state : c.column < h.dimension → Q c.column c.column)
    (effect : c.which < h.effects → c.column < h.dimension → Q (h.dimension + c.which * h.dimension + c.column) (h.dimension + c.which * h.dimension + c.column))
    (gate : c.which < h.gates → c.row * h.dimension + c.column < h.dimension * h.dimension
    → Q (h.dimension + h.effects * h.dimension + c.which * (h.dimension * h.dimension) + (c.row * h.dimension + c.column)) (name_place h c.which + (1 + (c.row * h.dimension + c.column)))) where
  by_name : has_entry h c ≡ true → Q (place_of h c) (word_place h c)
  unfolding has_entry place_of word_place
  by_name = go (eqb c.kind 1) (eqb c.kind 2)
    where
      j : ℕ
      j = c.row * h.dimension + c.column

      go : (a b : Bool) → cond a (ltb c.column h.dimension) (cond b (ltb c.which h.effects && ltb c.column h.dimension) (ltb c.which h.gates && ltb j (h.dimension * h.dimension))) ≡ true
          → Q (cond a c.column (cond b (h.dimension + c.which * h.dimension + c.column) (h.dimension + h.effects * h.dimension + c.which * (h.dimension * h.dimension) + j)))
          (cond a c.column (cond b (h.dimension + c.which * h.dimension + c.column) (name_place h c.which + (1 + j))))
      go true b e = state (ltb-true _ _ e)
      go false true e = let k = and_both (ltb c.which h.effects) (ltb c.column h.dimension) e in effect (ltb-true _ _ k.0) (ltb-true _ _ k.1)
      go false false e = let k = and_both (ltb c.which h.gates) (ltb j (h.dimension * h.dimension)) e in gate (ltb-true _ _ k.0) (ltb-true _ _ k.1)

-- number p of a model is word w of its words
pub record Stands (s : List ℕ) (h : Header) (p w : ℕ) : Type 0 where
  pub shown : (numbers : List Float) → get_or (model_words_of s h numbers) w 0 ≡ word (at numbers p)
  pub own : at (numbers_of s h) p ≡ number_at s (model_at h + w)
  pub finite-there : finite (number_at s (model_at h + w)) ≡ true
  pub within : w < model_words h

module _ (s : List ℕ) (h : Header) (good : checked_of s h ≡ good) where
  -- one of n finite numbers from word `from` on
  finite-one : (from n i : ℕ) → all_finite (numbers_at s from n) ≡ true → i < n → finite (number_at s (from + i)) ≡ true
  finite-one from n i e l = ap finite (sym (number-at s from n i l)) ∙ each-finite (numbers_at s from n) i e (omega (arith, length-numbers s from n))

  pub stands : (c : Coordinate) → has_entry h c ≡ true → Stands s h (place_of h c) (word_place h c)
  unfolding state_of effect_of gate_of
  stands c = by_name h c (Stands s h) state effect gate
    where
      d : ℕ
      d = h.dimension

      i : ℕ
      i = c.column

      k : ℕ
      k = c.which

      j : ℕ
      j = c.row * d + c.column

      state : i < d → Stands s h i i
      state l =
          record {
            shown = λ numbers. vector-word s h numbers i (omega arith);
            own = vector-number s h i (omega arith);
            finite-there = finite-one (state_at h) d i (state-finite s h good) l;
            within = omega arith;
          }

      effect : k < h.effects → i < d → Stands s h (d + k * d + i) (d + k * d + i)
      effect a l =
          let f : k * d + i < h.effects * d = entry-fits k i h.effects d a l in
          record {
            shown = λ numbers. vector-word s h numbers (d + k * d + i) (omega arith);
            own = vector-number s h (d + k * d + i) (omega arith);
            finite-there = subst (λ (p : ℕ). finite (number_at s p) ≡ true) (omega arith) (finite-one (effect_at h k) d i (effect-finite s h good k a) l);
            within = omega arith;
          }

      gate : k < h.gates → j < d * d → Stands s h (d + h.effects * d + k * (d * d) + j) (name_place h k + (1 + j))
      gate a l =
          let f : k * (1 + d * d) + (1 + j) < h.gates * (1 + d * d) = entry-fits k (1 + j) h.gates (1 + d * d) a (omega arith) in
          let v = vector_numbers h in
          let w : v + (k * (1 + d * d) + (1 + j)) ≡ name_place h k + (1 + j) = omega arith in
          let p : v + (k * (d * d) + j) ≡ d + h.effects * d + k * (d * d) + j = omega arith in
          let q : gate_at h k + j ≡ model_at h + (name_place h k + (1 + j)) = omega arith in
          record {
            shown = λ numbers. ap (λ (x : ℕ). get_or (model_words_of s h numbers) x 0) (sym w) ∙ gate-word s h numbers k j a l ∙ ap (λ (x : ℕ). word (at numbers x)) p;
            own = ap (at (numbers_of s h)) (sym p) ∙ gate-number s h k j a l ∙ ap (number_at s) q;
            finite-there = subst (λ (p : ℕ). finite (number_at s p) ≡ true) q (finite-one (gate_at h k) (d * d) j (gate-finite s h good k a) l);
            within = omega arith;
          }
