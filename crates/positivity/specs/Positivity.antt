-- Complete positivity (Nielsen and Chuang, section 8.2.4): a process is completely positive where its Choi matrix has no negative eigenvalue. As the Rust's
-- `is_completely_positive` tests it: no eigenvalue of the normalized Choi matrix is below minus the tolerance.
use Rattle.refusal.specs.Verdicts.{good, Verdict, first_of, checked_numbers, tolerance_of}
use Rattle.std.specs.Prelude.{Result, Err, Ok, ℕ, ◌*◌, ◌^◌, Bool, true, false, ◌&&◌, List, length, Float}
use Rattle.std.specs.Float.Ieee.{le, neg}
use Rattle.lists.specs.Fold.{fold}
use Rattle.numbers.specs.Slice.{at}
use Rattle.refusal.specs.declared.Refusal.{Refusal}
use Rattle.refusal.specs.declared.Refusal.TheVariants.{EigensolverDidNotConverge}
use Rattle.entries.specs.Entries.{entries}
use Rattle.eigen.specs.Jacobi.{Values, values, unknown_values, eig_of, values_of}
use Rattle.choi.specs.Choi.{choi_of, choi_tested}

-- each is at least the bound; a NaN is not
unfoldable pub none_below : Float → List Float → Bool
none_below bound w = fold (length w) (λ k good. good && le bound (at w k)) true

-- the eigenvalues of the normalized Choi matrix, which has 4^n rows, or that the rotations are used up
unfoldable pub choi_values : ℕ → Float → ℕ → List Float → Values
choi_values n tolerance rotations transfer = values_of (eig_of (4 ^ n) tolerance rotations (entries (choi_of n transfer)))

-- refusal 12
abbrev pub known : Values → Verdict
known (values w) = good
known unknown_values = Err EigensolverDidNotConverge

-- whether all are known and none is below the bound
abbrev pub all_from : Float → Values → Bool
all_from bound (values w) = none_below bound w
all_from bound unknown_values = false

-- the tests in the Rust's order: of the transfer matrix, of the tolerance, of the Choi matrix, and whether the rotations are enough
unfoldable pub positivity_verdict : ℕ → Float → ℕ → List Float → Verdict
positivity_verdict n tolerance rotations transfer =
    first_of (checked_numbers (4 ^ n * 4 ^ n) transfer)
    (first_of (tolerance_of tolerance)
    (first_of (choi_tested n transfer)
    (known (choi_values n tolerance rotations transfer))))

unfoldable pub completely_positive : ℕ → Float → ℕ → List Float → Bool
completely_positive n tolerance rotations transfer = all_from (neg tolerance) (choi_values n tolerance rotations transfer)

-- whether a process is completely positive, or why that is not said
abbrev pub Positivity : Type 0
Positivity = Result Bool Refusal

-- what a good verdict lets be told
abbrev pub told : Verdict → Bool → Positivity
told (Ok _) b = Ok b
told (Err r) b = Err r

-- what eigenvalues tell
abbrev pub judged : Float → Values → Positivity
judged tolerance v = told (known v) (all_from (neg tolerance) v)
