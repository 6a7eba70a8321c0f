-- How large the fields of a coordinate are, and what is made of them. Assumes nothing.
use Prim.Native.Nat.{ℕ, ◌*◌, ◌^◌, ◌≤◌, ◌<◌}
use mathlib.Core.Path.{◌≡◌}
use mathlib.Core.List.{List}
use native.Mathlib.Nat.{mod-lt}
use native.Mathlib.Omega.{arith}
use lib.Dec.{lit<}
use Rattle.sizes.proofs.Small.{product_le}
use Rattle.card_layout.specs.declared.Header.{Header}
use Rattle.card_layout.specs.declared.Coordinate.{Coordinate}
use Rattle.card_parts.specs.Parts.{coordinate_in}

-- c was read from a word
pub fields : (s : List ℕ) (h : Header) (i : ℕ) {c : Coordinate} → c ≡ coordinate_in s h i → (c.which < 2 ^ 12) × (c.row < 2 ^ 24) × (c.column < 2 ^ 24)
unfolding coordinate_in
fields s h i e = rw e (mod-lt _ (lit< tt), mod-lt _ (lit< tt), mod-lt _ (lit< tt))

-- a row times d, and an effect's or a gate's number times d or its square
pub row_most : (r d : ℕ) → r < 2 ^ 24 → d ≤ 16 → r * d ≤ 2 ^ 28
row_most r d h k = product_le r d (2 ^ 24) 16 (omega arith) k

pub which_most : (w m : ℕ) → w < 2 ^ 12 → m ≤ 4096 → w * m ≤ 2 ^ 24
which_most w m h k = product_le w m (2 ^ 12) 4096 (omega arith) k
