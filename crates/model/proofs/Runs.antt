-- Runs of a card's numbers, tested part by part. Assumes nothing.
use Prim.Native.Nat.{ℕ, ◌+◌}
use mathlib.Core.Path.{◌≡◌, refl, sym, ap, ◌∙◌}
use mathlib.Core.Bool.{Bool, true, ◌&&◌}
use mathlib.Core.List.{List, [], ◌∷◌, ◌++◌, map}
use native.Mathlib.Nat.{add_assoc}
use lib.Ieee.{Float}
use Rattle.booleans.proofs.Joined.{and-true, and_assoc}
use Rattle.std.specs.List.{fold, list_all, range_with_len}
use Rattle.std.proofs.lemmas.List.Folds.{list_all-map}
use Rattle.lists.specs.Build.{build}
use Rattle.lists.proofs.Chains.{build-range, map-build, fold-all}
use Rattle.lists.proofs.Filling.{build-none, build-suc, build-same}
use Rattle.lists.proofs.Rows.{build-append}
use Rattle.numbers.specs.Number.{number, finite}
use Rattle.numbers.specs.Word.{word_at}
use Rattle.numbers.specs.Slice.{number_at, numbers_at, all_finite}

numbers-joined : (s : List ℕ) (p a b : ℕ) → numbers_at s p (a + b) ≡ numbers_at s p a ++ numbers_at s (p + a) b
unfolding numbers_at
numbers-joined s p a b = build-append a b _ ∙ ap (λ (r : List Float). build a (λ i. number_at s (p + i)) ++ r) (build-same b _ _ (λ j _. ap (number_at s) (sym (add_assoc p a j))))

finite-append : (xs ys : List Float) → all_finite (xs ++ ys) ≡ (all_finite xs && all_finite ys)
unfolding all_finite
finite-append [] ys = refl
finite-append (x ∷ xs) ys = ap (λ (b : Bool). finite x && b) (finite-append xs ys) ∙ sym (and_assoc (finite x) (all_finite xs) (all_finite ys))

-- the numbers one by one
finite-listed : (xs : List Float) → list_all finite xs ≡ all_finite xs
unfolding all_finite
finite-listed [] = refl
finite-listed (x ∷ xs) = ap (λ (b : Bool). finite x && b) (finite-listed xs)

-- `(0..n).fold(true, |all, i| all & is_finite_word(word_at(card, p + i)))`
pub finite-range : (s : List ℕ) (p n : ℕ) → fold (λ all i. all && finite (number (word_at s (p + i)))) true (range_with_len 0 n) ≡ all_finite (numbers_at s p n)
unfolding numbers_at
finite-range s p n =
    fold-all (λ i. finite (number_at s (p + i))) true (range_with_len 0 n)
    ∙ sym (list_all-map finite (λ i. number_at s (p + i)) (range_with_len 0 n))
    ∙ ap (λ (l : List ℕ). list_all finite (map (λ i. number_at s (p + i)) l)) (build-range n)
    ∙ ap (list_all finite) (map-build (λ i. number_at s (p + i)) n (λ i. i))
    ∙ finite-listed (build n (λ i. number_at s (p + i)))

-- a run in two parts
run_parts : (s : List ℕ) (p a b n : ℕ) → n ≡ a + b → all_finite (numbers_at s p n) ≡ (all_finite (numbers_at s p a) && all_finite (numbers_at s (p + a) b))
run_parts s p a b n h = ap (λ (k : ℕ). all_finite (numbers_at s p k)) h ∙ ap all_finite (numbers-joined s p a b) ∙ finite-append (numbers_at s p a) (numbers_at s (p + a) b)

pub run_on : (s : List ℕ) (p a b n : ℕ) (r : Bool) → n ≡ a + b → all_finite (numbers_at s p a) ≡ true → r ≡ all_finite (numbers_at s (p + a) b) → r ≡ all_finite (numbers_at s p n)
run_on s p a b n r h e f = f ∙ sym (run_parts s p a b n h ∙ ap (λ (x : Bool). x && all_finite (numbers_at s (p + a) b)) e)

pub run_none : (s : List ℕ) (p : ℕ) → all_finite (numbers_at s p 0) ≡ true
unfolding numbers_at all_finite
run_none s p = ap all_finite (build-none _)

-- one more number
pub run_more : (s : List ℕ) (p n : ℕ) → all_finite (numbers_at s p (n + 1)) ≡ (all_finite (numbers_at s p n) && finite (number_at s (p + n)))
unfolding numbers_at all_finite
run_more s p n =
    ap all_finite (build-suc n (λ i. number_at s (p + i)))
    ∙ finite-append (build n (λ i. number_at s (p + i))) (number_at s (p + n) ∷ [])
    ∙ ap (λ (x : Bool). all_finite (build n (λ i. number_at s (p + i))) && x) (and-true (finite (number_at s (p + n))))
