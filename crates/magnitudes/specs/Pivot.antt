-- The pivot of classical Jacobi (Golub and Van Loan, section 8.5): the largest magnitude above the diagonal, and the scale of a matrix.
use Rattle.std.specs.Prelude.{◌≡◌, true, false, cond, ◌⊎◌, List, ℕ, ◌+◌, ◌-◌, ◌*◌, ◌<◌, get_or, Float}
use Rattle.std.specs.Float.Ieee.{lt}
use Rattle.lists.specs.Fold.{fold}
use Rattle.numbers.specs.Number.{number, max, zero_f}
use Rattle.complex.specs.declared.Complex.{Complex}
use Rattle.complex.specs.Arithmetic.{magnitude}
use Rattle.entries.specs.Entries.{nowhere, entry_at}
use Rattle.magnitudes.specs.declared.Pivot.{Pivot}

abbrev pub smallest_normal : Float
smallest_normal = number 0x0010000000000000

-- the largest of m sizes, and at least the smallest normal number
unfoldable pub scale_by : ℕ → (ℕ → Float) → Float
scale_by m size = max (fold m (λ k s. max s (size k)) zero_f) smallest_normal

-- over the magnitudes of all entries
unfoldable pub scale_of : ℕ → List Complex → Float
scale_of n a = scale_by (n * n) (λ k. magnitude (get_or a k nowhere))

abbrev pub no_pivot : Pivot
no_pivot = record { best = zero_f; p = 0; q = 0 }

-- Only a larger one takes the pivot's place: the first of equals stays, and a NaN never wins.
unfoldable pub larger : Float → ℕ → ℕ → Pivot → Pivot
larger x i j g = cond (lt g.best x) (record { best = x; p = i; q = j }) g

-- by rows, right of the diagonal
unfoldable pub pivot_in : ℕ → List Complex → ℕ → Pivot → Pivot
pivot_in n a i g = fold (n - (i + 1)) (λ d. larger (magnitude (entry_at n a i (i + 1 + d))) i (i + 1 + d)) g

unfoldable pub pivot_of : ℕ → List Complex → Pivot
pivot_of n a = fold n (pivot_in n a) no_pivot

-- What the pivot is: of all magnitudes above the diagonal none is larger, and those above 0 that come before it by rows are smaller.
-- It is above 0, so never a NaN, and the magnitude of the entry at its place; where no magnitude is above 0 there is no place.
pub record IsPivot (n : ℕ) (a : List Complex) (g : Pivot) : Type 0 where
  pub none_larger : (i j : ℕ) → i < j → j < n → lt g.best (magnitude (entry_at n a i j)) ≡ false
  pub first : (i j : ℕ) → i < j → j < n → (i < g.p) ⊎ ((i ≡ g.p) × (j < g.q)) → lt zero_f (magnitude (entry_at n a i j)) ≡ true → lt (magnitude (entry_at n a i j)) g.best ≡ true
  pub place : (g ≡ no_pivot) ⊎ ((g.p < g.q) × (g.q < n) × (lt zero_f g.best ≡ true) × (g.best ≡ magnitude (entry_at n a g.p g.q)))
