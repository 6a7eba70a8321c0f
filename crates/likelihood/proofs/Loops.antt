-- A loop over steps of which each may fail: it ends at the first that does. Assumes nothing.
use Rattle.std.proofs.Common.{◌≡◌, ℕ, ◌+◌, ◌<◌, Ok, Err, refl, sym, subst, add-one, arith}
use Rattle.lists.specs.Fold.{fold}
use Rattle.lists.proofs.Folding.{fold_stays}
use Rattle.likelihood.specs.declared.Diagnostics.{Diagnostics}
use Rattle.likelihood.specs.declared.Unfit.{Unfit}
use Rattle.likelihood.specs.Multinomial.{Likelihood, onward}

module _ (f : ℕ → Diagnostics → Likelihood) (d : Diagnostics) where
  -- after n steps from d
  abbrev pub weighed : ℕ → Likelihood
  weighed n = fold n (λ k. onward (f k)) (Ok d)

  pub weighed-none : weighed 0 ≡ Ok d
  unfolding fold
  weighed-none = refl

  module _ (i : ℕ) (t : Diagnostics) (e : weighed i ≡ Ok t) where
    -- what step i gives
    pub weighed-more : (l : Likelihood) → l ≡ f i t → weighed (i + 1) ≡ l
    unfolding fold
    weighed-more l h = rw (add-one, e) (sym h)

    -- step i fails
    pub weighed-ends : (n : ℕ) (u : Unfit) → i < n → Err u ≡ f i t → Err u ≡ weighed n
    weighed-ends n u l h = sym (fold_stays (λ k. onward (f k)) (Err u) (λ k. refl) n (i + 1) (Ok d) (omega arith) (weighed-more (Err u) h))

    pub weighed-all : (n : ℕ) → i ≡ n → Ok t ≡ weighed n
    weighed-all n h = subst (λ (k : ℕ). Ok t ≡ weighed k) h (sym e)
