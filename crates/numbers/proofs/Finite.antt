-- All numbers of a list are finite: as a chain without a branch finds it, and read off for each entry. Assumes nothing.
use Prim.Native.Nat.{ℕ, zero, suc, ◌+◌, ◌≤◌, ◌<◌}
use mathlib.Core.Path.{◌≡◌, refl, sym, ap, ◌∙◌}
use mathlib.Core.Bool.{Bool, true, false, ◌&&◌}
use mathlib.Core.List.{List, [], ◌∷◌}
use native.Mathlib.Numerals.{add-one}
use native.Mathlib.Nat.{not-suc-le-zero, le_of_suc-le-suc}
use lib.ListN.{length, drop, drop_of_length-le}
use lib.Seq.{drop-cons}
use lib.Ieee.{Float, nan}
use Rattle.std.specs.List.{fold}
use Rattle.std.proofs.lemmas.Bool.{and_parts}
use Rattle.numbers.specs.Number.{finite}
use Rattle.numbers.specs.Slice.{at, all_finite}

-- `xs.iter().fold(true, |all, x| all & is_finite(*x))`
pub all-chained : (a : Bool) (xs : List Float) → fold (λ b x. b && finite x) a xs ≡ (a && all_finite xs)
unfolding all_finite
all-chained true [] = refl
all-chained false [] = refl
all-chained true (x ∷ xs) = all-chained (finite x) xs
all-chained false (x ∷ xs) = all-chained false xs

pub each-finite : (xs : List Float) (i : ℕ) → all_finite xs ≡ true → i < length xs → finite (at xs i) ≡ true
unfolding all_finite
each-finite [] i e h = absurd (not-suc-le-zero h)
each-finite (x ∷ xs) zero e h = (and_parts (finite x) (all_finite xs) e).0
each-finite (x ∷ xs) (suc i) e h = each-finite xs i (and_parts (finite x) (all_finite xs) e).1 (le_of_suc-le-suc h)

-- ---- a loop with a branch, from the front: `finite-stop` where it ends early, `finite-on` where it goes on, `finite-end` behind the last

module _ (xs : List Float) (i : ℕ) (h : i < length xs) (e : all_finite xs ≡ all_finite (drop i xs)) where
  finite-at : all_finite xs ≡ (finite (at xs i) && all_finite (drop (suc i) xs))
  unfolding all_finite
  finite-at = e ∙ ap all_finite (drop-cons xs i nan h)

  pub finite-stop : finite (at xs i) ≡ false → false ≡ all_finite xs
  finite-stop f = sym (finite-at ∙ ap (λ (b : Bool). b && all_finite (drop (suc i) xs)) f)

  pub finite-on : finite (at xs i) ≡ true → all_finite xs ≡ all_finite (drop (i + 1) xs)
  finite-on f = rw add-one (finite-at ∙ ap (λ (b : Bool). b && all_finite (drop (suc i) xs)) f)

pub finite-end : (xs : List Float) (i : ℕ) → length xs ≤ i → all_finite xs ≡ all_finite (drop i xs) → true ≡ all_finite xs
unfolding all_finite
finite-end xs i h e = sym (e ∙ ap all_finite (drop_of_length-le xs {i = i} h))
