-- Lists made entry by entry, and a list whose front is written over.
use Rattle.std.specs.Prelude.{ℕ, zero, suc, List, [], ◌∷◌, ◌++◌, length, drop}

module _ {A : Type 0} where
  -- f i, f (i + 1), .. : k entries
  unfoldable pub from : ℕ → ℕ → (ℕ → A) → List A
  from i zero f = []
  from i (suc k) f = f i ∷ from (suc i) k f

  -- f 0, f 1, .. f (n - 1)
  unfoldable pub build : ℕ → (ℕ → A) → List A
  build n f = from 0 n f

  -- the front of the list l written over with `out`
  abbrev pub over : List A → List A → List A
  over out l = out ++ drop (length out) l

  -- f 0, then f 1, .. then f (n - 1), one list after the other
  unfoldable pub joined : ℕ → (ℕ → List A) → List A
  joined zero f = []
  joined (suc n) f = joined n f ++ f n
