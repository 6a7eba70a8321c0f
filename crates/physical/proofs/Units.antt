-- Row 0 and column 0 as numbers that stand one step apart. Assumes nothing.
use mathlib.Core.Path.{◌≡◌, sym, ◌∙◌, ap}
use mathlib.Core.Bool.{true, ◌&&◌}
use mathlib.Core.List.{List}
use Prim.Native.Nat.{ℕ, ◌+◌, ◌*◌}
use native.Mathlib.Nat.{mul-one, zero-mul}
use native.Mathlib.Omega.{arith}
use lib.Ieee.{Float}
use Rattle.std.specs.List.{list_all, range_with_len}
use Rattle.lists.proofs.Chains.{fold-all, fold-range}
use Rattle.lists.proofs.Folding.{fold_same}
use Rattle.numbers.specs.Slice.{at}
use Rattle.physical.specs.Physical.{unit_at, near, near_unit, trace_preserving, unital}

-- the numbers are the same where their places are
near_same : (p : ℕ) (t : Float) (values : List Float) (f g : ℕ → ℕ) → ((k : ℕ) → f k ≡ g k) → near_unit p t (λ k. at values (f k)) ≡ near_unit p t (λ k. at values (g k))
unfolding near_unit
near_same p t values f g h =
    fold_same _ _ p true (λ k good _. ap (λ (i : ℕ). good && near t (at values i) (unit_at k)) (h k))

pub row-steps : (p : ℕ) (t : Float) (values : List Float) → near_unit p t (λ k. at values (k * 1)) ≡ trace_preserving p t values
unfolding trace_preserving
row-steps p t values = near_same p t values (λ k. k * 1) (λ k. 0 * p + k) (λ k. omega (arith, mul-one k, zero-mul p))

pub column-steps : (p : ℕ) (t : Float) (values : List Float) → near_unit p t (λ k. at values (k * p)) ≡ unital p t values
unfolding unital
column-steps p t values = near_same p t values (λ k. k * p) (λ k. k * p + 0) (λ k. omega arith)

-- `(0..p).all(..)`
pub near-range : (p : ℕ) (t : Float) (f : ℕ → Float) → list_all (λ k. near t (f k) (unit_at k)) (range_with_len 0 p) ≡ near_unit p t f
unfolding near_unit
near-range p t f = sym (fold-all (λ k. near t (f k) (unit_at k)) true (range_with_len 0 p)) ∙ fold-range (λ good k. good && near t (f k) (unit_at k)) true p
