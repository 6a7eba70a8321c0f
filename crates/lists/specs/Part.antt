-- A middle part of a list.
use Rattle.std.specs.Prelude.{ℕ, List, ◌++◌, take, drop}

module _ {A : Type 0} where
  -- entries a to a + k - 1
  abbrev pub part : ℕ → ℕ → List A → List A
  part a k l = take k (drop a l)

  -- those entries put through g, and the others as they were
  abbrev pub on_part : ℕ → ℕ → (List A → List A) → List A → List A
  on_part a k g l = take a l ++ (g (part a k l) ++ drop k (drop a l))
