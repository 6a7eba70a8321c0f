-- The transfer matrix of a process (Nielsen and Chuang, section 8.4.2): outputs = R · inputs, the vectors being columns, so R = outputs · inputs⁻¹;
-- with the Rust's tests in its order.
use Rattle.std.specs.Prelude.{Err, ℕ, ◌*◌, cond, not, List, [], drop, Float}
use Rattle.numbers.specs.Number.{positive}
use Rattle.refusal.specs.declared.Refusal.{Refusal}
use Rattle.refusal.specs.declared.Refusal.TheVariants.{NonFinite, InvalidTolerance, SingularProcessDesign}
use Rattle.refusal.specs.Verdicts.{Verdict, after, finite_or}
use Rattle.matrix.specs.Product.{mat_mul_of, transposed_of}
use Rattle.inversion.specs.Inversion.{invertible, inverse_of}
use Rattle.transfer.specs.Vectors.{vetted_of}

-- the inputs and the outputs as columns
abbrev pub inputs_of : List Float → ℕ → List Float
inputs_of v p = transposed_of p v

abbrev pub outputs_of : List Float → ℕ → List Float
outputs_of v p = transposed_of p (drop (p * p) v)

-- outputs · inputs⁻¹, with the tolerance as the pivots' threshold
unfoldable pub transfer_of : Float → List Float → ℕ → List Float
transfer_of tolerance v p = mat_mul_of p (outputs_of v p) (inverse_of p tolerance (inputs_of v p))

-- the probes have to be complete, and `PauliTransferMatrix::try_new` refuses a number that is not finite
unfoldable pub solved_of : Float → List Float → ℕ → Verdict
solved_of tolerance v p =
    cond (not (invertible p tolerance (inputs_of v p))) (Err SingularProcessDesign)
    (finite_or NonFinite (transfer_of tolerance v p))

-- the numbers that are computed: none where the probes are not complete
unfoldable pub solved_numbers : Float → List Float → ℕ → List Float
solved_numbers tolerance v p = cond (not (invertible p tolerance (inputs_of v p))) [] (transfer_of tolerance v p)

-- the tolerance, then the vectors, before all else
unfoldable pub screened : {A : Type 0} → Float → List Float → ℕ → (Refusal → A) → A → A
screened tolerance v p refused next = cond (not (positive tolerance)) (refused InvalidTolerance) (after (vetted_of tolerance v p) refused next)

abbrev pub process_of : Float → List Float → ℕ → Verdict
process_of tolerance v p = screened tolerance v p Err (solved_of tolerance v p)

abbrev pub process_numbers : Float → List Float → ℕ → List Float
process_numbers tolerance v p = screened tolerance v p (λ _. []) (solved_numbers tolerance v p)
