-- What a stable sort is: each index occurs once, neighbours are in order, and of equal neighbours the earlier one comes first.
use Rattle.std.specs.Prelude.{Bool, true, false, cond, ◌≡◌, ◌⊎◌, List, [], ◌∷◌, ℕ, ◌+◌, ◌<◌, eqb, ltb, Float}
use Rattle.numbers.specs.Slice.{at}
use Rattle.sorting.specs.Sort.{before}

-- how often i occurs
unfoldable pub count : ℕ → List ℕ → ℕ
count i [] = 0
count i (j ∷ l) = cond (eqb i j) 1 0 + count i l

-- k may stand next after j
abbrev pub Next : Bool → List Float → ℕ → ℕ → Type 0
Next falling w j k = (before falling (at w k) (at w j) ≡ false) × ((before falling (at w j) (at w k) ≡ true) ⊎ (j < k))

abbrev pub InOrder : Bool → List Float → List ℕ → Type 0
InOrder falling w [] = Unit {0}
InOrder falling w (j ∷ []) = Unit {0}
InOrder falling w (j ∷ k ∷ l) = Next falling w j k × InOrder falling w (k ∷ l)

pub record Sorts (falling : Bool) (w : List Float) (n : ℕ) (order : List ℕ) : Type 0 where
  pub once : (i : ℕ) → count i order ≡ cond (ltb i n) 1 0
  pub ordered : InOrder falling w order
