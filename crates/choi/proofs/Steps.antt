-- What the loops store, step by step. Assumes nothing.
use mathlib.Core.Path.{◌≡◌, sym, ◌∙◌, subst}
use mathlib.Core.List.{List}
use Prim.Native.Nat.{ℕ, ◌+◌, ◌*◌, ◌%◌, ◌^◌, ◌≤◌}
use lib.IntN.{pos}
use lib.ListN.{set, length}
use lib.Ieee.{Float, of_int, binary64}
use Rattle.lists.specs.Build.{build}
use Rattle.lists.specs.Fold.{fold}
use Rattle.numbers.specs.Number.{zero_f, ◌+ᶠ◌, ◌*ᶠ◌, ◌/ᶠ◌}
use Rattle.numbers.specs.Slice.{at}
use Rattle.pauli.specs.Entry.{filled_column, filled_power, unit_of}
use Rattle.choi.specs.Sparse.{place_of, share, signed, with_term, with_row, with_pair, with_string}

pub share-is : (n d power : ℕ) (x u : Float) → d ≡ 2 ^ n → u ≡ unit_of power → u /ᶠ of_int binary64 (pos d) *ᶠ x /ᶠ of_int binary64 (pos d) ≡ share n power x
unfolding share
share-is n d power x u e h = rw (h, e)

-- a term, from the filled entry of row r
pub term_is : (n a column power : ℕ) (w : Float) (j r : ℕ) (l : List Float) (gc gp k : ℕ) (u v : Float) → gc ≡ filled_column n a r → gp ≡ filled_power n a r
    → k ≡ place_of n ((power + gp) % 2) column r j gc → u ≡ unit_of gp → v ≡ signed power gp (w *ᶠ u) → set l k (at l k +ᶠ v) ≡ with_term n a column power w j r l
unfolding with_term
term_is n a column power w j r l gc gp k u v e f g h i = rw (i, h, g, e, f)

-- a row, from the filled entry of row j
pub row_is : (n b a : ℕ) (x : Float) (j : ℕ) (l out : List Float) (column power r : ℕ) (w : Float) → column ≡ filled_column n b j → power ≡ filled_power n b j → w ≡ share n power x
    → r ≡ 2 ^ n → out ≡ fold r (λ r l. with_term n a column power w j r l) l → out ≡ with_row n b a x j l
unfolding with_row
row_is n b a x j l out column power r w e f g h o = o ∙ rw (g, e, f, h)

-- a string, and all strings, in the code's p
pub string-is : (n p : ℕ) (values : List Float) (b a : ℕ) (l out : List Float) → p ≡ 4 ^ n → a ≡ p → out ≡ fold a (λ a l. with_pair n b a (at values (a * p + b)) l) l
    → out ≡ with_string n values b l
unfolding with_string
string-is n p values b a l out e h o = o ∙ rw (h, e)

pub cleared : (n p : ℕ) (l out : List Float) → p ≡ 4 ^ n → length l ≡ 2 * (p * p) → out ≡ build (length l) (λ _. zero_f) → out ≡ build (2 * (4 ^ n * 4 ^ n)) (λ _. zero_f)
cleared n p l out e h o = o ∙ rw (h, e)

pub room : (n p k : ℕ) → p ≡ 4 ^ n → 2 * (4 ^ n * 4 ^ n) ≤ k → 2 * (p * p) ≤ k
room n p k e h = subst (λ (x : ℕ). 2 * (x * x) ≤ k) (sym e) h
