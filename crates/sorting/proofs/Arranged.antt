-- An order that was found, and the numbers in it. Assumes nothing.
use mathlib.Core.Path.{◌≡◌, sym, ◌∙◌}
use mathlib.Core.Bool.{Bool}
use mathlib.Core.List.{List}
use Prim.Native.Nat.{ℕ, ◌<◌}
use native.Mathlib.Omega.{arith}
use lib.ListN.{length, get_or, take}
use lib.Seq.{take_all}
use lib.Ieee.{Float}
use Rattle.lists.specs.Build.{build}
use Rattle.numbers.specs.Slice.{at}
use Rattle.sorting.specs.Sort.{order_by, sorted_by}
use Rattle.sorting.proofs.Ordered.{order_below}

module _ (falling : Bool) (w : List Float) (l : List ℕ) (m : ℕ) (e : m ≡ length w) (long : length l ≡ length w) (found : take m l ≡ order_by falling w m) where
  pub order_is : l ≡ order_by falling w (length w)
  order_is = rw (← e) (sym (take_all m l (omega arith)) ∙ found)

  pub order-in : (n : ℕ) → n ≡ length w → (k : ℕ) → k < n → get_or l k 0 < length w
  order-in n h k u = rw order_is (order_below falling w (length w) k (omega arith))

  pub sorted-is : (n : ℕ) (s : List Float) → n ≡ length w → s ≡ build n (λ k. at w (get_or l k 0)) → s ≡ sorted_by falling w
  unfolding sorted_by
  sorted-is n s h v = v ∙ rw (h, order_is)
