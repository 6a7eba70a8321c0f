-- The density matrix nearest to an estimate (Smolin, Gambetta and Smith 2012): the estimate's Hermitian part keeps its eigenvectors, and its eigenvalues become
-- the nearest probabilities. In float operations, and with the tests in the order, that the Rust's `project_density_with_tolerance` has.
use Rattle.refusal.specs.Verdicts.{good, Verdict, first_of, after, finite_or}
use Rattle.std.specs.Prelude.{Err, cond, not, List, [], ℕ, Float}
use Rattle.lists.specs.Fold.{fold}
use Rattle.numbers.specs.Number.{zero_f, positive, half_f}
use Rattle.numbers.specs.Slice.{at, all_finite}
use Rattle.complex.specs.declared.Complex.{Complex}
use Rattle.complex.specs.Arithmetic.{plus, times, scaled, conjugate}
use Rattle.entries.specs.Entries.{entries, parts_of, entry_at, matrix}
use Rattle.turns.specs.Rotation.{real}
use Rattle.eigen.specs.Jacobi.{Spectrum, spectrum, unknown, eig_of}
use Rattle.filling.specs.Filling.{filling}
use Rattle.refusal.specs.declared.Refusal.TheVariants.{NonFinite, InvalidTolerance, Operator, EigensolverDidNotConverge}

-- the Hermitian part: half of the estimate plus its adjoint
unfoldable pub halved_at : ℕ → List Complex → ℕ → ℕ → Complex
halved_at n e i j = scaled (plus (entry_at n e i j) (conjugate (entry_at n e j i))) half_f

unfoldable pub halved : ℕ → List Complex → List Complex
halved n e = matrix n n (halved_at n e)

-- entry (i, j) of p |v><v|, v being column k: v(i) p, times the conjugate of v(j)
unfoldable pub term_at : ℕ → List Complex → ℕ → Float → ℕ → ℕ → Complex
term_at n v k p i j = times (scaled (entry_at n v i k) p) (conjugate (entry_at n v j k))

-- the mixture of the eigenvectors with these probabilities: the sum of all terms, in their order, from zero
unfoldable pub mixed_at : ℕ → List Complex → List Float → ℕ → ℕ → Complex
mixed_at n v p i j = fold n (λ k sum. plus sum (term_at n v k (at p k) i j)) (real zero_f)

unfoldable pub mixed : ℕ → List Complex → List Float → List Complex
mixed n v p = matrix n n (mixed_at n v p)

-- the numbers that eigenvalues and eigenvectors give: real and imaginary part of each entry, by rows
unfoldable pub spectral_numbers : ℕ → Spectrum → List Float
spectral_numbers n (spectrum w v) = parts_of (mixed n v (filling w))
spectral_numbers n unknown = []

-- `eig` refuses where its rotations are used up, `Operator::try_new` a part that is not finite
unfoldable pub spectral_verdict : ℕ → Spectrum → Verdict
spectral_verdict n (spectrum w v) = finite_or Operator (spectral_numbers n (spectrum w v))
spectral_verdict n unknown = Err EigensolverDidNotConverge

-- what is tested before: that the estimate is finite, then the tolerance
unfoldable pub admission : Float → List Float → Verdict
admission tolerance e =
    cond (not (all_finite e)) (Err NonFinite)
    (cond (not (positive tolerance)) (Err InvalidTolerance)
    good)

abbrev pub spectrum_of : ℕ → Float → ℕ → List Float → Spectrum
spectrum_of n tolerance rotations e = eig_of n tolerance rotations (halved n (entries e))

-- the outcome
unfoldable pub projected_verdict : ℕ → Float → ℕ → List Float → Verdict
projected_verdict n tolerance rotations e = first_of (admission tolerance e) (spectral_verdict n (spectrum_of n tolerance rotations e))

-- numbers that only a good verdict gives
abbrev pub where_good : Verdict → List Float → List Float
where_good v numbers = after v (λ _. []) numbers

unfoldable pub projected_numbers : ℕ → Float → ℕ → List Float → List Float
projected_numbers n tolerance rotations e = where_good (projected_verdict n tolerance rotations e) (spectral_numbers n (spectrum_of n tolerance rotations e))
