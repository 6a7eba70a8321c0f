-- Rows that change places, and the places of columns. Assumes nothing.
use mathlib.Core.Path.{◌≡◌, refl, sym, ◌∙◌, subst}
use mathlib.Core.Bool.{Bool, true, false, cond}
use Prim.Native.Nat.{ℕ, ◌≤◌, ◌<◌}
use native.Mathlib.Nat.{le_refl}
use native.Mathlib.Omega.{arith}
use mathlib.Core.List.{List}
use lib.Dec.{eqb}
use lib.ListN.{length, get_or}
use borrow.Author.Tests.{eqb-true, eqb-false, eq-eqb, ne_eqb}
use Rattle.lists.specs.Build.{build}
use Rattle.lists.proofs.Choices.{yes, no}
use Rattle.lists.proofs.Filling.{build-same, build-all}
use Rattle.elimination.proofs.Cleared.{before}
use Rattle.inversion.specs.Kept.{relabelled}

module _ (k p : ℕ) where
  -- what stands in row i is row k, where i is p, and row i otherwise
  before-moved : (i : ℕ) → i ≡ p → before k p i ≡ k
  before-moved i e = sym (yes _ (eq-eqb i p e))

  before-own : (i : ℕ) → (i ≡ p → ⊥) → before k p i ≡ i
  before-own i o = sym (no _ (ne_eqb i p o) refl)

  pub before-within : (n i : ℕ) → k < n → i < n → before k p i < n
  before-within n i kn il = go (eqb i p)
    where
      go : (b : Bool) → cond b k i < n
      go true = kn
      go false = il

  pub before-from : (i : ℕ) → k ≤ i → k ≤ before k p i
  before-from i ki = go (eqb i p)
    where
      go : (b : Bool) → k ≤ cond b k i
      go true = le_refl k
      go false = ki

  -- the pivot's row is in row k, and in no other
  pub before-other : (i : ℕ) → (i ≡ k → ⊥) → before k p i ≡ p → ⊥
  before-other i o e = go (eqb i p) refl
    where
      go : (b : Bool) → eqb i p ≡ b → ⊥
      go true b = let q = eqb-true i p b in o (q ∙ sym e ∙ before-moved i q)
      go false b = let q = eqb-false i p b in q (sym (before-own i q) ∙ e)

  module _ (q : ℕ) where
    pub relabelled-within : (n : ℕ) → k < n → p < n → q < n → relabelled k p q < n
    unfolding relabelled
    relabelled-within n kn pn qn = go (eqb q k) (eqb q p)
      where
        go : (a b : Bool) → cond a p (cond b k q) < n
        go true b = pn
        go false true = kn
        go false false = qn

    to-p : q ≡ k → relabelled k p q ≡ p
    unfolding relabelled
    to-p e = sym (yes _ (eq-eqb q k e))

    to-k : (q ≡ k → ⊥) → q ≡ p → relabelled k p q ≡ k
    unfolding relabelled
    to-k o e = sym (no _ (ne_eqb q k o) (yes _ (eq-eqb q p e)))

    pub relabelled-own : (q ≡ k → ⊥) → (q ≡ p → ⊥) → relabelled k p q ≡ q
    unfolding relabelled
    relabelled-own o e = sym (no _ (ne_eqb q k o) (no _ (ne_eqb q p e) refl))

    -- a row that stays in its place changes none
    relabelled-same : p ≡ k → relabelled k p q ≡ q
    relabelled-same e = go (eqb q k) refl
      where
        go : (b : Bool) → eqb q k ≡ b → relabelled k p q ≡ q
        go true b = let f = eqb-true q k b in to-p f ∙ e ∙ sym f
        go false b = let f = eqb-false q k b in relabelled-own f (λ g. f (g ∙ e))

    -- the pivot's column gets the place k
    pub relabelled-pivot : q ≡ p → relabelled k p q ≡ k
    relabelled-pivot e = go (eqb q k) refl
      where
        go : (b : Bool) → eqb q k ≡ b → relabelled k p q ≡ k
        go true b = let f = eqb-true q k b in to-p f ∙ sym e ∙ f
        go false b = to-k (eqb-false q k b) e

    -- a column that is still the identity's after the step has its one in the row that was moved there
    module _ (kq : k ≤ q) (kp : k ≤ p) (o : q ≡ p → ⊥) where
      pub relabelled-later : k < relabelled k p q
      relabelled-later = go (eqb q k) refl
        where
          go : (b : Bool) → eqb q k ≡ b → k < relabelled k p q
          go true b =
              let e = eqb-true q k b in
              let l : (k ≡ p → ⊥) = λ f. o (e ∙ f) in
              subst (λ (x : ℕ). k < x) (sym (to-p e)) (omega arith)
          go false b =
              let f = eqb-false q k b in
              subst (λ (x : ℕ). k < x) (sym (relabelled-own f o)) (omega arith)

      pub one-moved : (i : ℕ) → i ≡ relabelled k p q → before k p i ≡ q
      one-moved i e = go (eqb q k) refl
        where
          go : (b : Bool) → eqb q k ≡ b → before k p i ≡ q
          go true b = let f = eqb-true q k b in before-moved i (e ∙ to-p f) ∙ sym f
          go false b =
              let f = eqb-false q k b in
              let g : i ≡ q = e ∙ relabelled-own f o in
              before-own i (λ x. o (sym g ∙ x)) ∙ g

      pub one-came : (i : ℕ) → (i ≡ k → ⊥) → before k p i ≡ q → i ≡ relabelled k p q
      one-came i ok e = go (eqb i p) refl
        where
          go : (b : Bool) → eqb i p ≡ b → i ≡ relabelled k p q
          go true b =
              let f = eqb-true i p b in
              f ∙ sym (to-p (sym e ∙ before-moved i f))
          go false b =
              let f = eqb-false i p b in
              let g : i ≡ q = sym (before-own i f) ∙ e in
              g ∙ sym (relabelled-own (λ x. ok (g ∙ x)) o)

pub places_same : (k p : ℕ) (t : List ℕ) → p ≡ k → t ≡ build (length t) (λ c. relabelled k p (get_or t c 0))
places_same k p t e = sym (build-same (length t) _ (λ c. get_or t c 0) (λ c _. relabelled-same k p (get_or t c 0) e) ∙ build-all 0 t)
