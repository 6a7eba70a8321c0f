-- Trace preservation and unitality (Nielsen and Chuang, section 8.2) of a process E, read off its transfer matrix R_ab = Tr[P_a E(P_b)] / d,
-- p by p numbers by rows. P_0 is the identity, and every other string has the trace 0, so E keeps the trace where row 0 is 1, 0, .., 0, and the identity
-- where column 0 is.
use Rattle.std.specs.Prelude.{ℕ, ◌+◌, ◌*◌, Bool, true, cond, ◌&&◌, List, eqb, Float}
use Rattle.std.specs.Float.Ieee.{le}
use Rattle.lists.specs.Fold.{fold}
use Rattle.numbers.specs.Number.{zero_f, one_f, ◌-ᶠ◌, abs}
use Rattle.numbers.specs.Slice.{at}

-- 1, 0, 0, ..
unfoldable pub unit_at : ℕ → Float
unit_at k = cond (eqb k 0) one_f zero_f

-- x differs from y by the tolerance at most; a NaN differs from everything
unfoldable pub near : Float → Float → Float → Bool
near tolerance x y = le (abs (x -ᶠ y)) tolerance

-- f 0, f 1, .. f (p - 1) is near 1, 0, .., 0
unfoldable pub near_unit : ℕ → Float → (ℕ → Float) → Bool
near_unit p tolerance f = fold p (λ k good. good && near tolerance (f k) (unit_at k)) true

unfoldable pub trace_preserving : ℕ → Float → List Float → Bool
trace_preserving p tolerance values = near_unit p tolerance (λ b. at values (0 * p + b))

unfoldable pub unital : ℕ → Float → List Float → Bool
unital p tolerance values = near_unit p tolerance (λ a. at values (a * p + 0))
