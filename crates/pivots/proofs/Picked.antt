-- The search for a pivot: one row more. Assumes nothing.
use mathlib.Core.Path.{◌≡◌, sym, ◌∙◌, ap, ap₂}
use mathlib.Core.Bool.{Bool, true, false, cond}
use mathlib.Core.List.{List}
use Prim.Native.Nat.{ℕ, ◌+◌, ◌*◌, ◌<◌}
use lib.Ieee.{Float}
use Rattle.numbers.specs.Slice.{at}
use Rattle.pivots.specs.Pivots.{magnitude, stays_largest, larger_row}
use Rattle.pivots.proofs.Sizes.{same-order}

-- the magnitude of entry k of row i
abbrev pub magnitude_at : ℕ → ℕ → List Float → ℕ → Float
magnitude_at w k l i = magnitude (at l (i * w + k))

module _ (w k : ℕ) (l : List Float) (p i : ℕ) where
  -- the row that is picked, by a test of the magnitudes s of row p and x of row i
  pub row-picked : (s x : Float) (keep : Bool) (r : ℕ) → s ≡ magnitude_at w k l p → x ≡ magnitude_at w k l i → keep ≡ stays_largest x s → r ≡ cond keep p i → r ≡ larger_row w k l p i
  unfolding larger_row
  row-picked s x keep r a b e f = f ∙ ap (λ (t : Bool). cond t p i) (e ∙ ap₂ stays_largest b a ∙ same-order (at l (i * w + k)) (at l (p * w + k)))

  -- and its magnitude
  pub size-picked : (s x : Float) (keep : Bool) (r : ℕ) (y : Float) → s ≡ magnitude_at w k l p → x ≡ magnitude_at w k l i → r ≡ cond keep p i → y ≡ cond keep s x → y ≡ magnitude_at w k l r
  size-picked s x true r y a b e f = f ∙ a ∙ ap (magnitude_at w k l) (sym e)
  size-picked s x false r y a b e f = f ∙ b ∙ ap (magnitude_at w k l) (sym e)

-- either row is within n
pub either-below : (n p i : ℕ) (keep : Bool) (r : ℕ) → p < n → i < n → r ≡ cond keep p i → r < n
either-below n p i true r h k e = rw e h
either-below n p i false r h k e = rw e k
