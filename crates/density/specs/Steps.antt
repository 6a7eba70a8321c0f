-- The mixture, term by term: that the terms added one after the other give it is `mixed-whole` of proofs/Mixing.antt.
use Rattle.std.specs.Prelude.{List, ℕ, get_or, Float}
use Rattle.lists.specs.Build.{build}
use Rattle.complex.specs.declared.Complex.{Complex}
use Rattle.complex.specs.Arithmetic.{plus, times, conjugate}
use Rattle.entries.specs.Entries.{entry_at, nowhere, matrix}
use Rattle.entries.specs.Laid.{changed_row}
use Rattle.density.specs.Projection.{term_at}

-- the conjugates of column k
unfoldable pub conjugates : ℕ → List Complex → ℕ → List Complex
conjugates n v k = build n (λ j. conjugate (entry_at n v j k))

-- x times the row u, added to row i
abbrev pub row_added : Complex → List Complex → ℕ → ℕ → Complex → Complex
row_added x u i j sum = plus sum (times x (get_or u j nowhere))

unfoldable pub with_row : ℕ → Complex → List Complex → ℕ → List Complex → List Complex
with_row n x u i e = changed_row n (row_added x u) i e

-- the term of column k and the probability p, added to each entry
unfoldable pub with_term : ℕ → List Complex → ℕ → Float → List Complex → List Complex
with_term n v k p e = matrix n n (λ i j. plus (entry_at n e i j) (term_at n v k p i j))
