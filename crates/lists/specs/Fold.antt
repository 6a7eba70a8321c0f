-- A step taken n times.
use Rattle.std.specs.Prelude.{ℕ, zero, suc}

-- `step 0`, then `step 1`, .. then `step (n - 1)`, from s
unfoldable pub fold : {S : Type 0} → ℕ → (ℕ → S → S) → S → S
fold zero step s = s
fold (suc n) step s = step n (fold n step s)
