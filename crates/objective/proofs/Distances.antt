-- The objective from the anchor's numbers. Assumes nothing.
use mathlib.Core.Path.{◌≡◌, ap, ap₂, ◌∙◌}
use mathlib.Core.List.{List}
use Prim.Native.Nat.{ℕ}
use lib.ListN.{length}
use lib.Ieee.{Float, neg}
use Rattle.numbers.specs.Number.{half_f, ◌+ᶠ◌, ◌-ᶠ◌, ◌*ᶠ◌}
use Rattle.numbers.specs.Slice.{at}
use Rattle.matrix.specs.Product.{sum_of}
use Rattle.descent.specs.Fit.{Job, size, coordinates_of, distance, objective_of}

module _ (J : Job) where
  pub objective-by : (likely s : Float) (xs anchor : List Float) → anchor ≡ coordinates_of J J.model → length xs ≡ size J
      → s ≡ sum_of (length xs) (λ i. (at xs i -ᶠ at anchor i) *ᶠ (at xs i -ᶠ at anchor i)) → neg likely +ᶠ half_f *ᶠ J.config.anchor_strength *ᶠ s ≡ objective_of J likely xs
  unfolding objective_of distance
  objective-by likely s xs anchor a n e =
      ap (λ (t : Float). neg likely +ᶠ half_f *ᶠ J.config.anchor_strength *ᶠ t)
      (e ∙ ap₂ (λ (k : ℕ) (a : List Float). sum_of k (λ i. (at xs i -ᶠ at a i) *ᶠ (at xs i -ᶠ at a i))) n a)
