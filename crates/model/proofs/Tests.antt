-- The loops over a model's parts. Assumes nothing.
use Prim.Native.Nat.{ℕ, zero, suc, ◌+◌, ◌<◌}
use mathlib.Core.Path.{◌≡◌, sym, ap, ap₂, ◌∙◌}
use mathlib.Core.Bool.{Bool, false, ◌||◌}
use mathlib.Core.List.{List, [], ◌∷◌}
use native.Mathlib.Numerals.{add-one}
use lib.Ieee.{nan}
use Rattle.std.specs.List.{list_any, range_with_len}
use Rattle.std.proofs.lemmas.List.Folds.{list_any-append}
use Rattle.std.proofs.Math.Bool.{or-false, or_assoc}
use Rattle.lists.specs.Build.{build}
use Rattle.lists.specs.Fold.{fold}
use Rattle.lists.proofs.Filling.{get_or-build, build-none, build-suc}
use Rattle.lists.proofs.Chains.{build-range}
use Rattle.numbers.specs.Slice.{at, number_at, numbers_at}
use Rattle.model.specs.Checked.{any_of}

-- ---- `(0..n).any(p)`

any-listed : (n : ℕ) (p : ℕ → Bool) → list_any p (build n (λ i. i)) ≡ any_of false n p
unfolding any_of fold
any-listed zero p = rw build-none
any-listed (suc n) p =
    ap (λ (k : ℕ). list_any p (build k (λ i. i))) (sym (add-one n))
    ∙ ap (list_any p) (build-suc n (λ i. i))
    ∙ list_any-append p (build n (λ i. i)) (n ∷ [])
    ∙ ap₂ ◌||◌ (any-listed n p) (or-false (p n))

pub any-range : (n : ℕ) (p : ℕ → Bool) → list_any p (range_with_len 0 n) ≡ any_of false n p
any-range n p = ap (list_any p) (build-range n) ∙ any-listed n p

-- b apart from the others
pub any-apart : (b : Bool) (n : ℕ) (p : ℕ → Bool) → (b || any_of false n p) ≡ any_of b n p
unfolding any_of fold
any-apart b zero p = or-false b
any-apart b (suc n) p = sym (or_assoc b (any_of false n p) (p n)) ∙ ap (λ (x : Bool). x || p n) (any-apart b n p)

-- number i of those from word `from` on
pub number-at : (s : List ℕ) (from n i : ℕ) → i < n → at (numbers_at s from n) i ≡ number_at s (from + i)
unfolding numbers_at
number-at s from n i h = get_or-build nan n i (λ k. number_at s (from + k)) h
