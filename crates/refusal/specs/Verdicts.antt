-- Verdicts: what tests find. Of several in a row the first that refuses decides.
use Rattle.std.specs.Prelude.{ℕ, Result, Ok, Err, cond, List, eqb, length, Float}
use Rattle.numbers.specs.Number.{positive}
use Rattle.numbers.specs.Slice.{all_finite}
use Rattle.refusal.specs.declared.Refusal.{Refusal}
use Rattle.refusal.specs.declared.Refusal.TheVariants.{Shape, NonFinite, InvalidTolerance}

-- nothing amiss, or a refusal
abbrev pub Verdict : Type 0
Verdict = Result (Unit {0}) Refusal

abbrev pub good : Verdict
good = Ok tt

-- the first of two that refuses
abbrev pub first_of : Verdict → Verdict → Verdict
first_of (Err r) v = Err r
first_of (Ok _) v = v

-- what follows a verdict: the refusal, or what comes next
abbrev pub after : {A : Type 0} → Verdict → (Refusal → A) → A → A
after (Err r) refused next = refused r
after (Ok _) refused next = next

-- the refusal r, unless all numbers are finite
unfoldable pub finite_or : Refusal → List Float → Verdict
finite_or r xs = cond (all_finite xs) good (Err r)

-- as the Rust tests a slice: its length, then that all its numbers are finite
unfoldable pub checked_numbers : ℕ → List Float → Verdict
checked_numbers wanted xs = cond (eqb (length xs) wanted) (finite_or NonFinite xs) (Err (Shape wanted (length xs)))

-- as many numbers as wanted
unfoldable pub counted_of : ℕ → List Float → Verdict
counted_of wanted xs = cond (eqb (length xs) wanted) good (Err (Shape wanted (length xs)))

-- what the Rust tests of a tolerance: that it is finite and above zero
unfoldable pub tolerance_of : Float → Verdict
tolerance_of tolerance = cond (positive tolerance) good (Err InvalidTolerance)
