-- Counts added up one by one. Assumes nothing.
use Rattle.std.proofs.Common.{None, Some, ◌≡◌, ℕ, zero, suc, ◌+◌, ◌-◌, ◌^◌, ◌<◌, ◌≤◌, List, length, get_or, sym, refl, ap, le_refl, add-zero, add-suc, arith, le-leb}
use borrow.Author.Tests.{lt-leb}
use Rattle.lists.specs.Fold.{fold}
use Rattle.lists.proofs.Choices.{yes, no}
use Rattle.lists.proofs.Folding.{fold_end, fold_more}
use Rattle.likelihood.specs.Multinomial.{total_of, counted_of}

module _ (counts : List ℕ) where
  -- the first k
  abbrev pub up_to : ℕ → ℕ
  up_to k = fold k (λ k t. t + get_or counts k 0) 0

  -- more counts make no smaller sum
  grows : (k n : ℕ) → up_to k ≤ up_to (k + n)
  unfolding fold
  grows k zero = rw add-zero (le_refl (up_to k))
  grows k (suc n) = rw add-suc (omega (arith, grows k n))

  -- one more passes what a word holds
  pub too_many : (k t : ℕ) → k < length counts → t ≡ up_to k → (t + get_or counts k 0 < 2 ^ 64 → ⊥) → None ≡ counted_of (total_of counts)
  unfolding total_of counted_of
  too_many k t l e h =
      let m : up_to (k + 1) ≡ t + get_or counts k 0 = sym (fold_more (λ k t. t + get_or counts k 0) k 0 t (t + get_or counts k 0) e refl) in
      let q : k + 1 + (length counts - (k + 1)) ≡ length counts = omega arith in
      let g : up_to (k + 1) ≤ up_to (length counts) = rw q at (grows (k + 1) (length counts - (k + 1))) in
      yes (Some (up_to (length counts))) (le-leb (2 ^ 64) (up_to (length counts)) (omega arith))

  -- all of them
  pub counted : (k t : ℕ) → k ≡ length counts → t ≡ up_to k → t < 2 ^ 64 → Some t ≡ counted_of (total_of counts)
  unfolding total_of counted_of
  counted k t h e b =
      let a : t ≡ up_to (length counts) = fold_end (λ k t. t + get_or counts k 0) k (length counts) 0 t h e in
      no None (lt-leb (2 ^ 64) (up_to (length counts)) (omega arith)) (ap Some a)
