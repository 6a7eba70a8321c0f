-- A transfer matrix R applied to expectations (Nielsen and Chuang, section 8.4.2): r' = R · r, with the Rust's tests in its order.
use Rattle.std.specs.Prelude.{ℕ, ◌*◌, List, [], Float}
use Rattle.refusal.specs.Verdicts.{Verdict, first_of, after, checked_numbers}
use Rattle.matrix.specs.Product.{mat_vec_of}

-- `PauliTransferMatrix::try_new` of p by p values, then the test of the input
unfoldable pub applied_of : ℕ → List Float → List Float → Verdict
applied_of p values input = first_of (checked_numbers (p * p) values) (checked_numbers p input)

-- the expectations afterwards; none where the call is refused
unfoldable pub applied_numbers : ℕ → List Float → List Float → List Float
applied_numbers p values input = after (applied_of p values input) (λ _. []) (mat_vec_of p values input)
