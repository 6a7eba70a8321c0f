-- A loop that puts each entry of a list through a step of its own, in place. Assumes nothing.
use Rattle.std.proofs.Common.{◌≡◌, ℕ, ◌+◌, ◌≤◌, ◌<◌, List, length, get_or, sym, ◌∙◌, refl, subst, arith}
use mathlib.Core.Bool.{Bool, true, false}
use lib.Dec.{eqb}
use lib.ListN.{set, length-set}
use lib.Seq.{get_or-set_same, get_or-set_other}
use borrow.Author.Tests.{eqb-true, eqb-false}

-- Step k leads from an entry to another where R says so. Those before i have been through theirs, and the others are as they were.
pub record Turned {A : Type 0} (z : A) (R : ℕ → A → A → Type 0) (d : List A) (i : ℕ) (out : List A) : Type 0 where
  pub long : length out ≡ length d
  pub done : (k : ℕ) → k < i → R k (get_or d k z) (get_or out k z)
  pub left : (k : ℕ) → i ≤ k → get_or out k z ≡ get_or d k z

module _ {A : Type 0} (z : A) (R : ℕ → A → A → Type 0) (d : List A) where
  pub turned_none : Turned z R d 0 d
  turned_none = record { long = refl; done = λ k h. absurd (omega arith); left = λ k h. refl }

  pub turned_more : (i : ℕ) (out : List A) (v : A) → i < length out → Turned z R d i out → R i (get_or out i z) v → Turned z R d (i + 1) (set out i v)
  turned_more i out v h t r =
      record {
        long = length-set out i v ∙ t.long;
        done = λ k l. go k l (eqb k i) refl;
        left = λ k l. get_or-set_other out i k v z (λ e. absurd (omega arith)) ∙ t.left k (omega arith);
      }
    where
      go : (k : ℕ) → k < i + 1 → (b : Bool) → eqb k i ≡ b → R k (get_or d k z) (get_or (set out i v) k z)
      go k l true q =
          let e : k ≡ i = eqb-true k i q in
          subst (λ (j : ℕ). R j (get_or d j z) (get_or (set out i v) j z)) (sym e) (subst (R i (get_or d i z)) (sym (get_or-set_same out i v z h)) (subst (λ (x : A). R i x v) (t.left i (omega arith)) r))
      go k l false q =
          let n : k ≡ i → ⊥ = eqb-false k i q in
          subst (R k (get_or d k z)) (sym (get_or-set_other out i k v z n)) (t.done k (omega arith))
