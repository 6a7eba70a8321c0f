-- The active count, number by number, and what follows from it. Assumes nothing.
use mathlib.Core.Path.{◌≡◌, refl, ◌∙◌, ap}
use mathlib.Core.Bool.{Bool, true, false, cond}
use mathlib.Core.List.{List}
use Prim.Native.Nat.{ℕ, ◌+◌, ◌≤◌}
use native.Mathlib.Omega.{arith}
use lib.ListN.{length, take}
use lib.Ieee.{Float, nan, lt}
use Rattle.std.specs.List.{fold as chain}
use Rattle.lists.specs.Fold.{fold}
use Rattle.lists.proofs.Chains.{fold-front}
use Rattle.lists.proofs.Folding.{fold-none, fold_more, fold_end}
use Rattle.numbers.specs.Number.{zero_f, minus_zero_f, ◌+ᶠ◌}
use Rattle.numbers.specs.Slice.{at}
use Rattle.sorting.specs.Sort.{descending}
use Rattle.filling.specs.Filling.{excess, sum_from, stays, active_count, threshold, lowered, filling}

-- what is found of the first i numbers of u
pub record Counted (u : List Float) (i : ℕ) (sum : Float) (active : ℕ) : Type 0 where
  pub total : sum ≡ sum_from zero_f u i
  pub count : active ≡ fold i (λ i active. cond (stays u i) (i + 1) active) 0
  pub most : active ≤ i

at_most : (b : Bool) (i m : ℕ) → m ≤ i → cond b (i + 1) m ≤ i + 1
at_most true i m h = omega arith
at_most false i m h = omega arith

module _ (u : List Float) where
  pub counted_none : Counted u 0 zero_f 0
  unfolding sum_from
  counted_none = record { total = fold-none _ _; count = fold-none _ _; most = omega arith }

  pub counted-more : (i active m : ℕ) (sum : Float) → Counted u i sum active → m ≡ cond (lt (excess (sum +ᶠ at u i) (i + 1)) (at u i)) (i + 1) active → Counted u (i + 1) (sum +ᶠ at u i) m
  unfolding sum_from stays
  counted-more i active m sum p e =
      let total = fold_more (λ i sum. sum +ᶠ at u i) i zero_f sum (sum +ᶠ at u i) p.total refl in
      record {
        total = total;
        count =
            fold_more (λ i active. cond (stays u i) (i + 1) active) i 0 active m p.count
            (e ∙ ap (λ (s : Float). cond (lt (excess s (i + 1)) (at u i)) (i + 1) active) total);
        most = rw e (at_most (lt (excess (sum +ᶠ at u i) (i + 1)) (at u i)) i active p.most);
      }

  pub counted-all : (i active : ℕ) (sum : Float) → i ≡ length u → Counted u i sum active → active ≡ active_count u
  unfolding active_count
  counted-all i active sum h p = fold_end _ i (length u) 0 active h p.count

  pub threshold-is : (m : ℕ) (s t : Float) → m ≡ active_count u → m ≤ length u → s ≡ chain (λ sum x. sum +ᶠ x) minus_zero_f (take m u) → t ≡ excess s m → t ≡ threshold u
  unfolding threshold sum_from
  threshold-is m s t e l f g = g ∙ rw (f ∙ fold-front (λ (sum x : Float). sum +ᶠ x) minus_zero_f nan m u l, e)

pub filling-is : (w u x : List Float) (t : Float) → u ≡ descending w → t ≡ threshold u → x ≡ lowered t w → x ≡ filling w
unfolding filling
filling-is w u x t e f g = g ∙ rw (f, e)
