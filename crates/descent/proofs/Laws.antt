-- Cases of a test, of an order, and of a bound. Assumes nothing.
use Prim.Native.Nat.{ℕ, suc, ◌≤◌, ◌<◌}
use mathlib.Core.Path.{◌≡◌, refl, sym, subst}
use mathlib.Core.Bool.{Bool, true, false}
use mathlib.Core.Logic.{⊎_elim}
use native.Mathlib.Nat.{eq-or-lt_of_le}
use native.Mathlib.Omega.{arith}
use lib.Dec.{ltb}
use borrow.Author.Tests.{ltb-true, ltb-false}

-- a test goes one way or the other
pub split : (P : Bool → Type 0) (b : Bool) → (b ≡ true → P true) → (b ≡ false → P false) → P b
split P true f g = f refl
split P false f g = g refl

pub by_order : {X : Type 0} (a b : ℕ) → (a < b → X) → (b ≤ a → X) → X
by_order {X} a b f g = split (λ (t : Bool). X) (ltb a b) (λ t. f (ltb-true a b t)) (λ t. g (ltb-false a b t))

-- what holds below n and at n holds below n + 1
pub one_more : {P : ℕ → Type 0} (n : ℕ) → ((k : ℕ) → k < n → P k) → P n → (k : ℕ) → k < suc n → P k
one_more {P} n below here k h =
    ⊎_elim (λ (e : k ≡ n). subst P (sym e) here) (λ (l : k < n). below k l) (eq-or-lt_of_le (omega arith))
