-- The probe vectors of a process (document 01, kind 3): p input vectors of p expectations, one after the other, then p output vectors.
use Rattle.refusal.specs.Verdicts.{good, Verdict, first_of}
use Rattle.std.specs.Prelude.{ℕ, ◌*◌, List, Float}
use Rattle.lists.specs.Fold.{fold}
use Rattle.lists.specs.Part.{part}
use Rattle.pauli.specs.Density.{vet_of}

-- vector k of all, inputs and then outputs
abbrev pub vector_of : List Float → ℕ → ℕ → List Float
vector_of v p k = part (k * p) p v

-- vector by vector: the refusal of the first that is not good
unfoldable pub vetted_of : Float → List Float → ℕ → Verdict
vetted_of tolerance v p = fold (2 * p) (λ k found. first_of found (vet_of tolerance (vector_of v p k))) good
