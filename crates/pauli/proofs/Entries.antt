-- The tensor product's entries: in each row of a string one is a power of i, and the others are zero. Assumes nothing.
use mathlib.Core.Path.{◌≡◌, refl, ◌∙◌, ap₂}
use mathlib.Core.Bool.{Bool, true, false, cond}
use Prim.Native.Nat.{ℕ, zero, suc, ◌+◌, ◌*◌, ◌/◌, ◌%◌, ◌^◌, ◌<◌}
use native.Mathlib.Nat.{two-pow-succ}
use native.Mathlib.Omega.{arith}
use lib.Dec.{eqb, lit<}
use borrow.Author.Tests.{eq-eqb, ne_eqb, eqb-true, eqb-false}
use lib.IntN.{zero-*ℤ, *ℤ-zero}
use Rattle.lists.proofs.Choices.{yes, no}
use Rattle.pauli.specs.Exact.{Gaussian, none, product, pauli_matrices, pauli_entry, string_entry}
use Rattle.pauli.specs.Entry.{flipped, turned, filled_column, filled_power, power_of_i}
use Rattle.pauli.proofs.Digits.{power_small}

-- what holds of 0 and 1 holds below 2, and so for 4
pub below_two : (P : ℕ → Type 0) → P 0 → P 1 → (k : ℕ) → k < 2 → P k
below_two P a b zero h = a
below_two P a b (suc zero) h = b
below_two P a b (suc (suc k)) h = absurd (omega arith)

pub below-four : (P : ℕ → Type 0) → P 0 → P 1 → P 2 → P 3 → (k : ℕ) → k < 4 → P k
below-four P a b c d zero h = a
below-four P a b c d (suc zero) h = b
below-four P a b c d (suc (suc zero)) h = c
below-four P a b c d (suc (suc (suc zero))) h = d
below-four P a b c d (suc (suc (suc (suc k)))) h = absurd (omega arith)

-- the entry of one row that is filled, and the others
abbrev pub row_of : ℕ → ℕ → ℕ → Gaussian
row_of filled power column = cond (eqb column filled) (power_of_i power) none

axis-row : (axis : ℕ) → axis < 4 → (x : ℕ) → x < 2 → (y : ℕ) → y < 2 → pauli_entry axis x y ≡ row_of (flipped axis x) (turned axis x) y
unfolding pauli_matrices flipped turned power_of_i
axis-row =
    below-four (λ axis. (x : ℕ) → x < 2 → (y : ℕ) → y < 2 → pauli_entry axis x y ≡ row_of (flipped axis x) (turned axis x) y)
    (below_two _ (below_two _ refl refl) (below_two _ refl refl))
    (below_two _ (below_two _ refl refl) (below_two _ refl refl))
    (below_two _ (below_two _ refl refl) (below_two _ refl refl))
    (below_two _ (below_two _ refl refl) (below_two _ refl refl))

-- powers of i multiply by adding
times-powers : (p : ℕ) → p < 4 → (q : ℕ) → q < 4 → product (power_of_i p) (power_of_i q) ≡ power_of_i ((p + q) % 4)
unfolding product power_of_i
times-powers =
    below-four (λ p. (q : ℕ) → q < 4 → product (power_of_i p) (power_of_i q) ≡ power_of_i ((p + q) % 4))
    (below-four _ refl refl refl refl)
    (below-four _ refl refl refl refl)
    (below-four _ refl refl refl refl)
    (below-four _ refl refl refl refl)

flipped-small : (axis : ℕ) → axis < 4 → (x : ℕ) → x < 2 → flipped axis x < 2
unfolding flipped
flipped-small =
    below-four (λ axis. (x : ℕ) → x < 2 → flipped axis x < 2)
    (below_two _ (lit< tt) (lit< tt))
    (below_two _ (lit< tt) (lit< tt))
    (below_two _ (lit< tt) (lit< tt))
    (below_two _ (lit< tt) (lit< tt))

turned-small : (axis : ℕ) → axis < 4 → (x : ℕ) → x < 2 → turned axis x < 4
unfolding turned
turned-small =
    below-four (λ axis. (x : ℕ) → x < 2 → turned axis x < 4)
    (below_two _ (lit< tt) (lit< tt))
    (below_two _ (lit< tt) (lit< tt))
    (below_two _ (lit< tt) (lit< tt))
    (below_two _ (lit< tt) (lit< tt))

pub column-small : (n code row : ℕ) → filled_column n code row < 2 ^ n
unfolding filled_column
column-small zero code row = lit< tt
column-small (suc n) code row =
    omega (arith, two-pow-succ n, column-small n (code / 4) (row / 2), flipped-small (code % 4) (omega arith) (row % 2) (omega arith))

-- zero times anything, and anything times zero
none-times : (z : Gaussian) → product none z ≡ none
unfolding product
none-times z = rw (zero-*ℤ z.re, zero-*ℤ z.im)

times_none : (z : Gaussian) → product z none ≡ none
unfolding product
times_none z = rw (*ℤ-zero z.re, *ℤ-zero z.im)

-- two rows multiplied: F and f are the filled columns, P and t the powers
row-times : (F f P t c : ℕ) → f < 2 → P < 4 → t < 4 → product (row_of F P (c / 2)) (row_of f t (c % 2)) ≡ row_of (F * 2 + f) ((P + t) % 4) c
row-times F f P t c hf h_p ht = go (eqb (c / 2) F) (eqb (c % 2) f) refl refl
  where
    go : (a b : Bool) → eqb (c / 2) F ≡ a → eqb (c % 2) f ≡ b
        → product (cond a (power_of_i P) none) (cond b (power_of_i t) none) ≡ row_of (F * 2 + f) ((P + t) % 4) c
    go true true p q =
        let e : c ≡ F * 2 + f = omega (arith, eqb-true (c / 2) F p, eqb-true (c % 2) f q) in
        times-powers P h_p t ht ∙ yes none (eq-eqb c (F * 2 + f) e)
    go true false p q =
        let e : c ≡ F * 2 + f → ⊥ = λ h. eqb-false (c % 2) f q (omega arith) in
        times_none (power_of_i P) ∙ no (power_of_i ((P + t) % 4)) (ne_eqb c (F * 2 + f) e) refl
    go false b p q =
        let e : c ≡ F * 2 + f → ⊥ = λ h. eqb-false (c / 2) F p (omega arith) in
        none-times (cond b (power_of_i t) none) ∙ no (power_of_i ((P + t) % 4)) (ne_eqb c (F * 2 + f) e) refl

-- the tensor product's entries
pub entry-is : (n code row column : ℕ) → column < 2 ^ n → string_entry n code row column ≡ row_of (filled_column n code row) (filled_power n code row) column
unfolding string_entry filled_column filled_power power_of_i
entry-is zero code row column h = let z : column ≡ 0 = omega arith in rw z
entry-is (suc n) code row column h =
    ap₂ product (entry-is n (code / 4) (row / 2) (column / 2) (omega (arith, two-pow-succ n))) (axis-row (code % 4) (omega arith) (row % 2) (omega arith) (column % 2) (omega arith))
    ∙ row-times (filled_column n (code / 4) (row / 2)) (flipped (code % 4) (row % 2)) (filled_power n (code / 4) (row / 2)) (turned (code % 4) (row % 2)) column
    (flipped-small (code % 4) (omega arith) (row % 2) (omega arith)) (power_small n (code / 4) (row / 2)) (turned-small (code % 4) (omega arith) (row % 2) (omega arith))
