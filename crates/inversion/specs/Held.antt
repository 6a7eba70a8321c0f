-- What the code holds of a matrix while it is reduced.
use Rattle.std.specs.Prelude.{ℕ, ◌≡◌, Bool}
use Rattle.inversion.specs.declared.Kept.{Kept}
use Rattle.inversion.specs.Inversion.{Reduction}
use Rattle.inversion.specs.Kept.{Stands}

-- before column k of n, whether the reduction goes on, and that its matrix is kept
abbrev pub Held : ℕ → ℕ → Bool → Kept → Reduction → Type 0
Held n k going w s = (w.n ≡ n) × Stands n k going w.places.now w.rows.now s
