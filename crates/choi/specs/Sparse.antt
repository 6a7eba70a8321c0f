-- The terms of the Choi matrix that are not zero. P_b has one such entry in each row j, and P_a one in each row r, so a pair b, a adds to one part for each j and r.
-- That this is the whole sum is `sparse-is` of proofs/Sums.antt.
use Rattle.std.specs.Prelude.{ℕ, ◌+◌, ◌*◌, ◌%◌, ◌^◌, ◌≤◌, ◌≡◌, cond, List, eqb, set, Float}
use Rattle.std.specs.Float.Ieee.{neg}
use Rattle.lists.specs.Build.{build}
use Rattle.lists.specs.Fold.{fold}
use Rattle.numbers.specs.Number.{zero_f, ◌+ᶠ◌, ◌*ᶠ◌, ◌/ᶠ◌}
use Rattle.numbers.specs.Slice.{at}
use Rattle.pauli.specs.Entry.{filled_column, filled_power, unit_of}
use Rattle.choi.specs.Choi.{side_of, transfer_at}

-- the place of part q of entry ((i, r), (j, s))
unfoldable pub place_of : ℕ → ℕ → ℕ → ℕ → ℕ → ℕ → ℕ
place_of n q i r j s = 2 * ((i * 2 ^ n + r) * 4 ^ n + (j * 2 ^ n + s)) + q

-- the coefficient's part that is not zero, of a string's entry i^power
unfoldable pub share : ℕ → ℕ → Float → Float
share n power x = unit_of power /ᶠ side_of n *ᶠ x /ᶠ side_of n

-- i times i is -1
unfoldable pub signed : ℕ → ℕ → Float → Float
signed p q v = cond (eqb (p % 2 + q % 2) 2) (neg v) v

-- one term added; column and power are those of row j of P_b
unfoldable pub with_term : ℕ → ℕ → ℕ → ℕ → Float → ℕ → ℕ → List Float → List Float
with_term n a column power w j r l =
    let k = place_of n ((power + filled_power n a r) % 2) column r j (filled_column n a r) in
    set l k (at l k +ᶠ signed power (filled_power n a r) (w *ᶠ unit_of (filled_power n a r)))

-- the terms of row j of P_b, of the pair b, a, and of all pairs
unfoldable pub with_row : ℕ → ℕ → ℕ → Float → ℕ → List Float → List Float
with_row n b a x j l = fold (2 ^ n) (λ r l. with_term n a (filled_column n b j) (filled_power n b j) (share n (filled_power n b j) x) j r l) l

unfoldable pub with_pair : ℕ → ℕ → ℕ → Float → List Float → List Float
with_pair n b a x l = fold (2 ^ n) (λ j l. with_row n b a x j l) l

unfoldable pub with_string : ℕ → List Float → ℕ → List Float → List Float
with_string n values b l = fold (4 ^ n) (λ a l. with_pair n b a (transfer_at n values a b) l) l

unfoldable pub sparse_of : ℕ → List Float → List Float
sparse_of n values = fold (4 ^ n) (λ b l. with_string n values b l) (build (2 * (4 ^ n * 4 ^ n)) (λ _. zero_f))

-- n qubits, their dimension d = 2^n, and p = 4^n, the number of strings
pub record Sides (n d p : ℕ) : Type 0 where
  pub some : 1 ≤ n
  pub few : n ≤ 2
  pub side : d ≡ 2 ^ n
  pub strings : p ≡ 4 ^ n
