-- A model whose test finds nothing has finite numbers. Assumes nothing.
use Rattle.refusal.specs.Verdicts.{good}
use Prim.Native.Nat.{ℕ, zero, suc, ◌<◌}
use mathlib.Core.Path.{◌≡◌, sym, subst}
use mathlib.Core.Bool.{Bool, true, false, not}
use mathlib.Core.List.{List}
use mathlib.Core.Logic.{⊎_elim}
use native.Mathlib.Nat.{not-suc-le-zero, eq-or-lt_of_le, le_of_suc-le-suc}
use borrow.Author.Tests.{not-false}
use lib.Dec.{eqb}
use Rattle.lists.specs.Fold.{fold}
use Rattle.booleans.proofs.Joined.{neither}
use Rattle.numbers.specs.Slice.{all_finite}
use Rattle.refusal.proofs.Verdicts.{passed}
use Rattle.card_layout.specs.declared.Header.{Header}
use Rattle.card_parts.specs.Model.{state_of, effect_of, gate_of}
use Rattle.model.specs.Checked.{any_of, bad_effect, bad_gate, on_card, checked_of}

-- where there is none, none of them is one
none_of : (b : Bool) (n : ℕ) (p : ℕ → Bool) → any_of b n p ≡ false → (b ≡ false) × ((i : ℕ) → i < n → p i ≡ false)
unfolding any_of fold
none_of b zero p e = (e, λ i l. absurd (not-suc-le-zero l))
none_of b (suc n) p e =
    let k = neither (any_of b n p) (p n) e in
    let r = none_of b n p k.0 in
    (r.0, λ i l. ⊎_elim (λ (q : i ≡ n). subst (λ (j : ℕ). p j ≡ false) (sym q) k.1) (λ (q : i < n). r.1 i q) (eq-or-lt_of_le (le_of_suc-le-suc l)))

module _ (s : List ℕ) (h : Header) (e : checked_of s h ≡ good) where
  numbers-passed : (all_finite (state_of s h) ≡ true) × (bad_gate (on_card s h) ≡ false)
  unfolding checked_of
  numbers-passed =
      let a = passed (eqb h.dimension 0) _ _ (sym e) in
      let b = passed (not (all_finite (state_of s h))) _ _ a.1 in
      let c = passed (eqb h.effects 0) _ _ b.1 in
      (not-false _ b.0, (passed (bad_gate (on_card s h)) _ _ c.1).0)

  pub state-finite : all_finite (state_of s h) ≡ true
  state-finite = numbers-passed.0

  pub effect-finite : (k : ℕ) → k < h.effects → all_finite (effect_of s h k) ≡ true
  effect-finite k l = not-false _ ((none_of false h.effects _ (none_of (bad_effect (on_card s h)) h.gates _ numbers-passed.1).0).1 k l)

  pub gate-finite : (g : ℕ) → g < h.gates → all_finite (gate_of s h g) ≡ true
  gate-finite g l = not-false _ ((none_of (bad_effect (on_card s h)) h.gates _ numbers-passed.1).1 g l)
