-- Loops as folds: a law to begin, one for a turn, one at the end. Assumes nothing.
use mathlib.Core.Path.{◌≡◌, refl, ◌∙◌, ap, subst}
use mathlib.Core.Logic.{⊎_elim}
use Prim.Native.Nat.{ℕ, zero, suc, ◌+◌, ◌≤◌, ◌<◌}
use native.Mathlib.Nat.{eq-or-lt_of_le, add-zero, add-suc}
use native.Mathlib.Numerals.{add-one}
use native.Mathlib.Omega.{arith}
use lib.ListN.{get_or}
use Rattle.lists.specs.Build.{build}
use Rattle.lists.specs.Fold.{fold}
use Rattle.lists.proofs.Filling.{build-same, get_or-build}

module _ {S : Type 0} (f : ℕ → S → S) where
  pub fold-none : (s : S) → s ≡ fold 0 f s
  unfolding fold
  fold-none s = refl

  -- s is the state after i turns, t the one after the next
  pub fold_more : (i : ℕ) (s₀ s t : S) → s ≡ fold i f s₀ → t ≡ f i s → t ≡ fold (i + 1) f s₀
  unfolding fold
  fold_more i s₀ s t a e = rw add-one (e ∙ ap (f i) a)

  pub fold_end : (i n : ℕ) (s₀ s : S) → i ≡ n → s ≡ fold i f s₀ → s ≡ fold n f s₀
  fold_end i n s₀ s h a = rw (← h) a

  -- what each turn keeps, the whole loop keeps
  pub fold-keeps : (P : S → Type 0) (n : ℕ) (s : S) → P s → ((i : ℕ) (t : S) → i < n → P t → P (f i t)) → P (fold n f s)
  unfolding fold
  fold-keeps P zero s p h = p
  fold-keeps P (suc n) s p h = h n (fold n f s) (omega arith) (fold-keeps P n s p (λ i t l q. h i t (omega arith) q))

  -- n turns after the first a
  pub fold_on : (a n : ℕ) (s : S) → fold (a + n) f s ≡ fold n (λ k. f (a + k)) (fold a f s)
  unfolding fold
  fold_on a zero s = ap (λ (k : ℕ). fold k f s) (add-zero a)
  fold_on a (suc n) s = ap (λ (k : ℕ). fold k f s) (add-suc a n) ∙ ap (f (a + n)) (fold_on a n s)

  -- a state that no turn changes
  pub fold_stays : (x : S) → ((i : ℕ) → f i x ≡ x) → (n i : ℕ) (s : S) → i ≤ n → fold i f s ≡ x → fold n f s ≡ x
  unfolding fold
  fold_stays x h zero i s l e = let q : i ≡ 0 = omega arith in subst (λ (k : ℕ). fold k f s ≡ x) q e
  fold_stays x h (suc n) i s l e =
      ⊎_elim (λ (q : i ≡ suc n). subst (λ (k : ℕ). fold k f s ≡ x) q e) (λ (q : i < suc n). ap (f n) (fold_stays x h n i s (omega arith) e) ∙ h n)
      (eq-or-lt_of_le l)

-- two loops whose turns do the same
pub fold_same : {S : Type 0} (f g : ℕ → S → S) (n : ℕ) (s : S) → ((i : ℕ) (t : S) → i < n → f i t ≡ g i t) → fold n f s ≡ fold n g s
unfolding fold
fold_same f g zero s h = refl
fold_same f g (suc n) s h = h n (fold n f s) (omega arith) ∙ ap (g n) (fold_same f g n s (λ i t l. h i t (omega arith)))

-- a step on each entry, list after list, is the same as entry by entry
pub build-fold : {A : Type 0} (z : A) (m n : ℕ) (step : ℕ → ℕ → A → A) (f : ℕ → A)
    → fold n (λ k l. build m (λ i. step k i (get_or l i z))) (build m f) ≡ build m (λ i. fold n (λ k s. step k i s) (f i))
unfolding fold
build-fold z m zero step f = refl
build-fold z m (suc n) step f =
    build-same m _ _
    (λ j h. ap (step n j) (ap (λ l. get_or l j z) (build-fold z m n step f) ∙ get_or-build z m j (λ i. fold n (λ k s. step k i s) (f i)) h))
