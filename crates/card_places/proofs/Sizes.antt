-- How large the parts of a card can be. Assumes nothing.
use Prim.Native.Nat.{ℕ, ◌+◌, ◌*◌, ◌^◌, ◌≤◌}
use mathlib.Core.Path.{◌≡◌, refl, ap, subst, ◌∙◌}
use mathlib.Core.Bool.{false}
use lib.Dec.{lit<}
use native.Mathlib.Nat.{pow-le-pow_right}
use native.Mathlib.Omega.{arith}
use Rattle.sizes.proofs.Small.{product_le, four-shift}
use Rattle.card_layout.specs.declared.Header.{Header}
use Rattle.card_layout.specs.Limits.{Limited, limits_of}
use Rattle.card_layout.specs.Rules.{word0_breaks, qubits_break}
use Rattle.card_layout.proofs.EachKind.{at-kind, few-qubits}
use Rattle.card_places.specs.Places.{wanted_words, model_words}
use Rattle.card_places.proofs.ByKind.{at5, at6, at7, words1, words2, words3, words4, words5, words6, words7}

-- two numbers of 16 bits have a product of 32
pub product_fits : (a b : ℕ) → a ≤ 65536 → b ≤ 65536 → a * b ≤ 4294967296
product_fits a b h k = product_le a b 65536 65536 h k

module _ (h : Header) (l : Limited h) where
  pub square-most : h.dimension * h.dimension ≤ 256
  square-most = product_le h.dimension h.dimension 16 16 l.dimension l.dimension

  pub model_most : model_words h ≤ 2328
  model_most =
      let s = square-most in
      let e : h.effects * h.dimension ≤ 256 = product_le h.effects h.dimension 16 16 l.effects l.dimension in
      let g : h.gates * (1 + h.dimension * h.dimension) ≤ 8 * 257 = product_le h.gates (1 + h.dimension * h.dimension) 8 257 l.gates (omega arith) in
      omega arith

  records-most : h.records * (5 + h.effects) ≤ 200 * 21
  records-most = product_le h.records (5 + h.effects) 200 21 l.records (omega arith)

  -- the largest layout has 6,601 words: kind 5 at all its limits
  module _ (rule : word0_breaks h ≡ false) (few : qubits_break h ≡ false) where
    four-most : (m k : ℕ) → h.kind ≡ k → (limits_of k).qubits ≡ m → 4 ^ h.qubits * 4 ^ h.qubits ≤ 4 ^ m * 4 ^ m
    four-most m k e f =
        let n : h.qubits ≤ m = subst (λ (j : ℕ). h.qubits ≤ j) (ap (λ (j : ℕ). (limits_of j).qubits) e ∙ f) (few-qubits h rule few) in
        let p : 4 ^ h.qubits ≤ 4 ^ m = pow-le-pow_right {n = 4} (lit< tt) {i = h.qubits} {j = m} n in
        product_le (4 ^ h.qubits) (4 ^ h.qubits) (4 ^ m) (4 ^ m) p p

    pub wanted-most : wanted_words h ≤ 6601
    unfolding limits_of
    wanted-most =
        let m = model_most in
        let s = square-most in
        let r = records-most in
        at-kind h rule (λ k. h.kind ≡ k → wanted_words h ≤ 6601) (λ e. omega (arith, words1 h e, (four-shift h.qubits l.qubits).1))
        (λ e. omega (arith, words2 h e)) (λ e. omega (arith, words3 h e, four-most 2 3 e refl)) (λ e. omega (arith, words4 h e, four-most 2 4 e refl))
        (λ e. omega (arith, words5 h e, at5 h e, l.coordinates)) (λ e. omega (arith, words6 h e, at6 h e)) (λ e. omega (arith, words7 h e, at7 h e)) refl
