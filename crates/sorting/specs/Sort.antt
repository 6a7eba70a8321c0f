-- The stable sort by document 01's order of numbers, ascending or descending: insertion, each number after those that it does not come before.
use Rattle.std.specs.Prelude.{Bool, true, false, cond, List, [], ◌∷◌, ℕ, zero, suc, length, get_or, Float}
use Rattle.lists.specs.Build.{build}
use Rattle.numbers.specs.Number.{precedes}
use Rattle.numbers.specs.Slice.{at}

-- x comes before y, in a sort that falls or in one that rises
unfoldable pub before : Bool → Float → Float → Bool
before falling x y = cond falling (precedes y x) (precedes x y)

-- number k of w goes before the first of the ordered ones that it comes before
unfoldable pub insert : Bool → List Float → ℕ → List ℕ → List ℕ
insert falling w k [] = k ∷ []
insert falling w k (j ∷ l) = cond (before falling (at w k) (at w j)) (k ∷ j ∷ l) (j ∷ insert falling w k l)

-- the order of the first n numbers of w: which comes first, second, ..
unfoldable pub order_by : Bool → List Float → ℕ → List ℕ
order_by falling w zero = []
order_by falling w (suc n) = insert falling w n (order_by falling w n)

unfoldable pub sorted_by : Bool → List Float → List Float
sorted_by falling w = build (length w) (λ k. at w (get_or (order_by falling w (length w)) k 0))

-- ascending, and descending
abbrev pub order_of : List Float → ℕ → List ℕ
order_of w n = order_by false w n

abbrev pub sorted : List Float → List Float
sorted w = sorted_by false w

abbrev pub descending : List Float → List Float
descending w = sorted_by true w
