-- The loop over a string's digits, from the lowest: what is found so far, and what is left to find. Assumes nothing.
use mathlib.Core.Path.{◌≡◌, ◌∙◌, ap, subst}
use Prim.Native.Nat.{ℕ, zero, suc, ◌+◌, ◌-◌, ◌*◌, ◌/◌, ◌%◌, ◌^◌, ◌<◌, ◌≤◌}
use native.Mathlib.Nat.{mul-one, one-mul, mul_assoc, mul_comm, mul-add, mul-le-mul_left, le-mul_of_pos_right, mul-le-mul, mul-zero, two-pow-succ}
use native.Mathlib.Omega.{arith}
use lib.Pow.{pow_pos, pow_mono}
use Rattle.lists.proofs.Parts.{entry-fits}
use mathlib.Core.List.{List}
use lib.ListN.{set}
use lib.Ieee.{Float}
use Rattle.numbers.specs.Number.{◌+ᶠ◌, ◌*ᶠ◌}
use Rattle.numbers.specs.Slice.{at}
use Rattle.pauli.specs.Entry.{flipped, turned, filled_column, filled_power, filled_place, unit_of, with_entry}

pub power_small : (n code row : ℕ) → filled_power n code row < 4
unfolding filled_power
power_small zero code row = omega arith
power_small (suc n) code row = omega arith

pub record Going (n code row column power place c x left : ℕ) : Type 0 where
  pub most : left ≤ n
  pub weight : place * 2 ^ left ≡ 2 ^ n
  pub below : column < place
  pub small : power < 4
  pub columns : filled_column n code row ≡ place * filled_column left c x + column
  pub powers : filled_power n code row ≡ (power + filled_power left c x) % 4

pub going-none : (n code row : ℕ) → Going n code row 0 0 1 code row n
going-none n code row =
    record {
      most = omega arith;
      weight = one-mul (2 ^ n);
      below = omega arith;
      small = omega arith;
      columns = omega (arith, one-mul (filled_column n code row));
      powers = omega (arith, power_small n code row);
    }

-- no place is above 8
pub place-small : (place left n : ℕ) → n ≤ 3 → place * 2 ^ left ≡ 2 ^ n → place ≤ 8
place-small place left n h e = omega (arith, le-mul_of_pos_right place (pow_pos left), pow_mono h)

-- one digit more
going-suc : (n code row column power place c x left f t : ℕ) → f ≡ flipped (c % 4) (x % 2) → f < 2 → t ≡ turned (c % 4) (x % 2)
    → Going n code row column power place c x (suc left) → Going n code row (column + place * f) ((power + t) % 4) (place * 2) (c / 4) (x / 2) left
unfolding filled_column filled_power
going-suc n code row column power place c x left f t p q r g =
    record {
      most = omega (arith, g.most);
      weight = let e : 2 * 2 ^ left ≡ 2 ^ suc left = omega (arith, two-pow-succ left) in mul_assoc place 2 (2 ^ left) ∙ ap (λ (z : ℕ). place * z) e ∙ g.weight;
      below = let b : place * f ≤ place * 1 = mul-le-mul_left place (omega arith) in omega (arith, g.below, mul-one place);
      small = omega arith;
      columns = g.columns ∙ shifted place (filled_column left (c / 4) (x / 2)) (flipped (c % 4) (x % 2)) f column p;
      powers = g.powers ∙ moved power (filled_power left (c / 4) (x / 2)) (turned (c % 4) (x % 2)) t r;
    }
  where
    shifted : (w k y f u : ℕ) → f ≡ y → w * (k * 2 + y) + u ≡ w * 2 * k + (u + w * f)
    shifted w k y f u e = rw (e, mul-add) (omega (arith, mul_assoc w 2 k, ap (λ (z : ℕ). w * z) (mul_comm k 2)))

    moved : (p k y t : ℕ) → t ≡ y → (p + (k + y) % 4) % 4 ≡ ((p + t) % 4 + k) % 4
    moved p k y t e = omega arith

pub going_more : (n code row column power place c x k a f t : ℕ) → k < n → a ≡ c % 4 → f ≡ flipped a (x % 2) → f < 2 → t ≡ turned a (x % 2)
    → Going n code row column power place c x (n - k) → Going n code row (column + place * f) ((power + t) % 4) (place * 2) (c / 4) (x / 2) (n - (k + 1))
going_more n code row column power place c x k a f t h z p q r g =
    let e : n - k ≡ suc (n - (k + 1)) = omega arith in
    going-suc n code row column power place c x (n - (k + 1)) f t (rw z at p) q (rw z at r) (rw e at g)

-- no digit is left
module _ (n code row column power place c x left : ℕ) (z : left ≡ 0) (going : Going n code row column power place c x left) where
  ended : Going n code row column power place c x 0
  ended = subst (λ (k : ℕ). Going n code row column power place c x k) z going

  pub going-column : column ≡ filled_column n code row
  unfolding filled_column
  going-column = omega (arith, ended.columns, mul-zero place)

  pub going-power : power ≡ filled_power n code row
  unfolding filled_power
  going-power = omega (arith, ended.powers, ended.small)

  pub going-below : column < 2 ^ n
  going-below = omega (arith, ended.below, ended.weight, mul-one place)

-- the part that a row's entry changes lies within the matrix, and the matrix is small
pub record Within (d row column : ℕ) : Type 0 where
  pub entry : row * d + column < d * d
  pub square : d * d ≤ 64

pub within : (n d row column : ℕ) → n ≤ 3 → d ≡ 2 ^ n → row < d → column < 2 ^ n → Within d row column
within n d row column h e r l =
    let b : d ≤ 8 = omega (arith, pow_mono h) in
    record { entry = entry-fits row column d d r (omega arith); square = mul-le-mul b b }

-- what `add_entry` stores
pub stored : (n d code row column power : ℕ) (w u : Float) (l : List Float) → d ≡ 2 ^ n → column ≡ filled_column n code row → power ≡ filled_power n code row → u ≡ unit_of power
    → set l (2 * (row * d + column) + power % 2) (at l (2 * (row * d + column) + power % 2) +ᶠ u *ᶠ w) ≡ with_entry n code w row l
unfolding with_entry filled_place
stored n d code row column power w u l a b c e = rw (e, a, b, c)
