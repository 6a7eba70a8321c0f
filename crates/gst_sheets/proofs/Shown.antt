-- The numbers of a model in its room, and the word before the model. Assumes nothing.
use Prim.Native.Nat.{ℕ, ◌≤◌}
use mathlib.Core.Path.{◌≡◌, ap, ◌∙◌}
use mathlib.Core.List.{List, ◌++◌, append-nil}
use native.Mathlib.Omega.{arith}
use lib.ListN.{length, take, drop, drop_of_length-le}
use lib.Seq.{length-take-le, take_at}
use Rattle.lists.specs.Build.{over}
use Rattle.card_layout.specs.declared.Header.{Header}
use Rattle.card_places.specs.Shape.{Shaped}
use Rattle.card_places.proofs.ByKind.{at7}
use Rattle.card_places.proofs.Within.{model_inside}

-- x was written over all of the n entries that were lent, and they are lent again
module _ {A : Type 0} (x room ys : List A) (n : ℕ) (l : length x ≡ n) (f : n ≤ length room) (e : ys ≡ over x (take n room)) where
  loaded : ys ≡ x
  loaded = e ∙ ap (λ (z : List A). x ++ z) (drop_of_length-le (take n room) {i = length x} (omega (arith, length-take-le n room f))) ∙ append-nil x

  pub loaded-again : take n (ys ++ drop n room) ≡ x
  loaded-again = take_at ys (drop n room) n (ap length loaded ∙ l) ∙ loaded

-- the tolerance stands before the model
pub tolerance_inside : (s : List ℕ) (h : Header) → Shaped s h → h.kind ≡ 7 → 16 ≤ length s
tolerance_inside s h a k = omega (arith, model_inside s h a (omega arith), at7 h k)
