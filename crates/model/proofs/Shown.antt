-- Words whose bits together show that their numbers are finite. Assumes nothing.
use Prim.Native.Nat.{ℕ, zero, suc, ◌+◌, ◌*◌, ◌%◌, ◌<◌}
use mathlib.Core.Path.{◌≡◌, sym, ap, ap₂, ◌∙◌}
use mathlib.Core.Bool.{true, ◌&&◌}
use mathlib.Core.List.{List, [], ◌∷◌}
use native.Mathlib.Nat.{zero-mul, suc-mul}
use native.Mathlib.Numerals.{add-one}
use native.Mathlib.Omega.{arith}
use lib.Bits.{bit_or, or_mod, or_add_and, and_le_l, and_le_r}
use borrow.Author.Tests.{lt-ltb, ltb-true}
use Rattle.std.specs.List.{list_all, range_with_len}
use Rattle.std.proofs.lemmas.List.Folds.{list_all-append}
use Rattle.booleans.proofs.Joined.{and_both}
use Rattle.lists.specs.Build.{build}
use Rattle.lists.specs.Fold.{fold}
use Rattle.lists.proofs.Filling.{build-suc}
use Rattle.lists.proofs.Chains.{build-range}
use Rattle.numbers.specs.Number.{number, finite}
use Rattle.numbers.specs.Word.{word_at}
use Rattle.numbers.specs.Slice.{numbers_at, all_finite}
use Rattle.numbers.proofs.Leaves.{finite-word}
use Rattle.model.specs.Shown.{bits_together}
use Rattle.model.proofs.Runs.{run_none, run_on, run_more}

-- no bits are more than those of two words together
each_below : (a b : ℕ) → bit_or a b % 0x8000_0000_0000_0000 < 0x7ff0_0000_0000_0000 → (a % 0x8000_0000_0000_0000 < 0x7ff0_0000_0000_0000) × (b % 0x8000_0000_0000_0000 < 0x7ff0_0000_0000_0000)
each_below a b h =
    let m : bit_or a b % 0x8000_0000_0000_0000 ≡ bit_or (a % 0x8000_0000_0000_0000) (b % 0x8000_0000_0000_0000) = or_mod a b 63 in
    let t = or_add_and (a % 0x8000_0000_0000_0000) (b % 0x8000_0000_0000_0000) in
    let l = and_le_l (a % 0x8000_0000_0000_0000) (b % 0x8000_0000_0000_0000) in
    let r = and_le_r (a % 0x8000_0000_0000_0000) (b % 0x8000_0000_0000_0000) in
    (omega arith, omega arith)

each-finite : (a b : ℕ) → finite (number (bit_or a b)) ≡ true → (finite (number a) ≡ true) × (finite (number b) ≡ true)
each-finite a b h =
    let e = each_below a b (ltb-true _ _ (finite-word (bit_or a b) ∙ h)) in
    (sym (finite-word a) ∙ lt-ltb _ _ e.0, sym (finite-word b) ∙ lt-ltb _ _ e.1)

together-finite : (s : List ℕ) (p n : ℕ) → finite (number (bits_together s p n)) ≡ true → all_finite (numbers_at s p n) ≡ true
unfolding bits_together fold
together-finite s p zero h = run_none s p
together-finite s p (suc n) h =
    let e = each-finite (bits_together s p n) (word_at s (p + n)) h in
    ap (λ (k : ℕ). all_finite (numbers_at s p k)) (sym (add-one n)) ∙ run_more s p n ∙ ap₂ ◌&&◌ (together-finite s p n e.0) e.1

eights-listed : (s : List ℕ) (p n : ℕ) → list_all (λ i. finite (number (bits_together s (p + i * 8) 8))) (build n (λ i. i)) ≡ true → true ≡ all_finite (numbers_at s p (n * 8))
eights-listed s p zero e = rw zero-mul (sym (run_none s p))
eights-listed s p (suc n) e =
    let q = λ (i : ℕ). finite (number (bits_together s (p + i * 8) 8)) in
    let l : list_all q (build (suc n) (λ i. i)) ≡ (list_all q (build n (λ i. i)) && (q n && true)) = ap (λ (k : ℕ). list_all q (build k (λ i. i))) (sym (add-one n)) ∙ ap (list_all q) (build-suc n (λ i. i)) ∙ list_all-append q (build n (λ i. i)) (n ∷ []) in
    let b = and_both (list_all q (build n (λ i. i))) (q n && true) (sym l ∙ e) in
    run_on s p (n * 8) 8 (suc n * 8) true (suc-mul n 8) (sym (eights-listed s p n b.0)) (sym (together-finite s (p + n * 8) 8 (and_both (q n) true b.1).0))

-- `(0..n).all(|i| is_finite_word(bits_together(card, p + i * 8, 8)))`
pub eights-shown : (s : List ℕ) (p n : ℕ) → list_all (λ i. finite (number (bits_together s (p + i * 8) 8))) (range_with_len 0 n) ≡ true → true ≡ all_finite (numbers_at s p (n * 8))
eights-shown s p n e = eights-listed s p n (sym (ap (list_all (λ i. finite (number (bits_together s (p + i * 8) 8)))) (build-range n)) ∙ e)
