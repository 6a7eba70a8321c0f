-- Classical Jacobi on a Hermitian matrix (Golub and Van Loan, section 8.5): the largest entry above the diagonal is rotated to zero, until it is small.
use Rattle.std.specs.Prelude.{Bool, true, false, cond, List, ℕ, zero, suc, eqb, get_or, Float}
use Rattle.std.specs.Float.Ieee.{le}
use Rattle.lists.specs.Build.{build}
use Rattle.numbers.specs.Number.{zero_f, one_f, ◌*ᶠ◌}
use Rattle.complex.specs.declared.Complex.{Complex}
use Rattle.entries.specs.Entries.{entry_at, matrix}
use Rattle.magnitudes.specs.Pivot.{scale_of, pivot_of}
use Rattle.turns.specs.Rotation.{real, turn_of, turned, columns_turned}
use Rattle.sorting.specs.Sort.{order_of, sorted}

-- the matrix and the vectors that the rotations leave, or that the rotations are used up
pub data Turns : Type 0 where
  done : List Complex → List Complex → Turns
  used_up : Turns

-- k rotations at most of the n by n matrix a and of the vectors v, each after a test: what the last one gives is not tested
unfoldable pub jacobi : ℕ → ℕ → Float → List Complex → List Complex → Turns
jacobi zero n limit a v = used_up
jacobi (suc k) n limit a v =
    let t = turn_of n a (pivot_of n a) in
    elim (le (pivot_of n a).best limit) [ true ↦ done a v | false ↦ jacobi k n limit (turned n t a) (columns_turned n n t v) ]

-- what a run says, and what it leaves
unfoldable pub ran : Bool → List Complex → List Complex → Turns
ran true a v = done a v
ran false a v = used_up

-- the unit vectors, in columns
unfoldable pub unit_at : ℕ → ℕ → Complex
unit_at i j = real (cond (eqb i j) one_f zero_f)

unfoldable pub unit : ℕ → List Complex
unit n = matrix n n unit_at

-- the real parts of the diagonal
unfoldable pub diagonal : ℕ → List Complex → List Float
diagonal n a = build n (λ k. (entry_at n a k k).re)

-- the columns of v in this order
unfoldable pub columns_in : List ℕ → ℕ → List Complex → List Complex
columns_in order n v = matrix n n (λ i j. entry_at n v i (get_or order j 0))

-- eigenvalues and their vectors, in columns, or that the rotations are used up
pub data Spectrum : Type 0 where
  spectrum : List Float → List Complex → Spectrum
  unknown : Spectrum

-- ascending, equal ones in the order of the diagonal
unfoldable pub ascending : ℕ → Turns → Spectrum
ascending n (done a v) = spectrum (sorted (diagonal n a)) (columns_in (order_of (diagonal n a) n) n v)
ascending n used_up = unknown

-- the eigenvalues and vectors of the n by n matrix a: entries above the diagonal are small beside tolerance times the scale
unfoldable pub eig_of : ℕ → Float → ℕ → List Complex → Spectrum
eig_of n tolerance rotations a = ascending n (jacobi rotations n (tolerance *ᶠ scale_of n a) a (unit n))

-- what is said, and what is left
unfoldable pub told : Bool → List Float → List Complex → Spectrum
told true w v = spectrum w v
told false w v = unknown

-- the eigenvalues, or that the rotations are used up
pub data Values : Type 0 where
  values : List Float → Values
  unknown_values : Values

-- those of a spectrum
unfoldable pub values_of : Spectrum → Values
values_of (spectrum w v) = values w
values_of unknown = unknown_values

unfoldable pub told_values : Bool → List Float → Values
told_values true w = values w
told_values false w = unknown_values
