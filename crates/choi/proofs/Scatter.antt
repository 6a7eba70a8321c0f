-- Sums that are scattered over a list: one number is added at each place, and zeros everywhere else. Assumes nothing.
use mathlib.Core.Path.{◌≡◌, refl, sym, ◌∙◌, ap, ap₂}
use mathlib.Core.Bool.{Bool, true, false, cond}
use mathlib.Core.List.{List}
use Prim.Native.Nat.{ℕ, zero, suc, ◌+◌, ◌*◌, ◌/◌, ◌%◌, ◌<◌, ◌≤◌}
use native.Mathlib.Nat.{add-suc, add-zero, suc-mul, zero-mul}
use native.Mathlib.Omega.{arith}
use lib.Dec.{ltb}
use lib.ListN.{length, set}
use lib.Ieee.{Float, nan}
use borrow.Author.Tests.{lt-ltb, le-ltb, ltb-true, ltb-false}
use Rattle.lists.specs.Build.{build}
use Rattle.lists.specs.Fold.{fold}
use Rattle.lists.proofs.Filling.{build-same, build-all, get_or-build, set-build}
use Rattle.lists.proofs.Folding.{fold_same, fold-keeps}
use Rattle.lists.proofs.Parts.{row-of, column-of}
use Rattle.numbers.specs.Number.{◌+ᶠ◌}
use Rattle.numbers.specs.Slice.{at}

-- ---- loops in loops

fold-split : {S : Type 0} (f : ℕ → S → S) (a b : ℕ) (s : S) → fold (a + b) f s ≡ fold b (λ i. f (a + i)) (fold a f s)
unfolding fold
fold-split f a zero s = rw add-zero
fold-split f a (suc b) s = rw add-suc (ap (f (a + b)) (fold-split f a b s))

-- n turns of m turns each are n · m turns
pub fold-nested : {S : Type 0} (g : ℕ → ℕ → S → S) (n m : ℕ) (s : S) → fold (n * m) (λ q. g (q / m) (q % m)) s ≡ fold n (λ j t. fold m (λ r. g j r) t) s
unfolding fold
fold-nested g zero m s = rw zero-mul
fold-nested g (suc n) m s =
    ap (λ (k : ℕ). fold k (λ q. g (q / m) (q % m)) s) (suc-mul n m)
    ∙ fold-split (λ q. g (q / m) (q % m)) (n * m) m s
    ∙ fold_same _ _ m _ (λ i t h. ap₂ (λ (x y : ℕ). g x y t) (row-of n i m h) (column-of n i m h))
    ∙ ap (fold m (λ r. g n r)) (fold-nested g n m s)

-- two loops whose turns do the same to a state of which P holds
pub fold-alike : {S : Type 0} (P : S → Type 0) (f g : ℕ → S → S) (n : ℕ) (s : S) → P s → ((i : ℕ) (t : S) → i < n → P t → P (g i t)) → ((i : ℕ) (t : S) → i < n → P t → f i t ≡ g i t)
    → fold n f s ≡ fold n g s
unfolding fold
fold-alike P f g zero s p keeps same = refl
fold-alike P f g (suc n) s p keeps same =
    ap (f n) (fold-alike P f g n s p (λ i t l. keeps i t (omega arith)) (λ i t l. same i t (omega arith)))
    ∙ same n (fold n g s) (omega arith) (fold-keeps g P n s p (λ i t l. keeps i t (omega arith)))

-- ---- one list: u q is added at `place q`, for each slot q; entry k is of slot `slot k`, and f k is what is to be added to it
module _ (m count : ℕ) (l : List Float) (f u : ℕ → Float) (slot place : ℕ → ℕ) where
  pub record Scattered : Type 0 where
    pub within : (q : ℕ) → q < count → place q < m
    pub back : (q : ℕ) → q < count → slot (place q) ≡ q
    pub few : (k : ℕ) → k < m → slot k < count
    pub there : (q : ℕ) → q < count → at l (place q) +ᶠ u q ≡ at l (place q) +ᶠ f (place q)
    pub elsewhere : (k : ℕ) → k < m → (k ≡ place (slot k) → ⊥) → at l k +ᶠ f k ≡ at l k

  -- the slots below q are done
  partly : ℕ → ℕ → Float
  partly q k = cond (ltb (slot k) q) (at l k +ᶠ f k) (at l k)

  step : ℕ → List Float → List Float
  step q t = set t (place q) (at t (place q) +ᶠ u q)

  module _ (s : Scattered) where
    turn : (q : ℕ) → q < count → step q (build m (partly q)) ≡ build m (partly (suc q))
    unfolding step partly
    turn q h = set-build nan m (place q) (partly q) (partly (suc q)) (at (build m (partly q)) (place q) +ᶠ u q) (s.within q h) value other
      where
        value : at (build m (partly q)) (place q) +ᶠ u q ≡ partly (suc q) (place q)
        value =
            ap (λ (x : Float). x +ᶠ u q)
            (get_or-build nan m (place q) (partly q) (s.within q h)
            ∙ ap (λ (b : Bool). cond b (at l (place q) +ᶠ f (place q)) (at l (place q))) (le-ltb (slot (place q)) q (omega (arith, s.back q h))))
            ∙ s.there q h
            ∙ ap (λ (b : Bool). cond b (at l (place q) +ᶠ f (place q)) (at l (place q))) (sym (lt-ltb (slot (place q)) (suc q) (omega (arith, s.back q h))))

        other : (k : ℕ) → k < m → (k ≡ place q → ⊥) → partly q k ≡ partly (suc q) k
        other k b ne = go (ltb (slot k) q) (ltb (slot k) (suc q)) refl refl
          where
            go : (x y : Bool) → ltb (slot k) q ≡ x → ltb (slot k) (suc q) ≡ y → cond x (at l k +ᶠ f k) (at l k) ≡ cond y (at l k +ᶠ f k) (at l k)
            go true true v w = refl
            go true false v w = absurd (omega (arith, ltb-true (slot k) q v, ltb-false (slot k) (suc q) w))
            go false true v w =
                let e : slot k ≡ q = omega (arith, ltb-false (slot k) q v, ltb-true (slot k) (suc q) w) in
                sym (s.elsewhere k b (λ z. ne (z ∙ ap place e)))
            go false false v w = refl

    turns : (q : ℕ) → q ≤ count → length l ≡ m → fold q step l ≡ build m (partly q)
    unfolding fold partly
    turns zero h e =
        sym (build-all nan l)
        ∙ ap (λ (k : ℕ). build k (at l)) e
        ∙ build-same m (at l) (partly 0) (λ k _. ap (λ (b : Bool). cond b (at l k +ᶠ f k) (at l k)) (sym (le-ltb (slot k) 0 (omega arith))))
    turns (suc q) h e = ap (step q) (turns q (omega arith) e) ∙ turn q (omega arith)

    pub scattered : length l ≡ m → fold count (λ q t. set t (place q) (at t (place q) +ᶠ u q)) l ≡ build m (λ k. at l k +ᶠ f k)
    unfolding step partly
    scattered e =
        turns count (omega arith) e
        ∙ build-same m (partly count) (λ k. at l k +ᶠ f k) (λ k h. ap (λ (b : Bool). cond b (at l k +ᶠ f k) (at l k)) (lt-ltb (slot k) count (s.few k h)))
