-- What clearing a column makes of each entry: of the matrix beside the identity, and of kept rows. Assumes nothing.
use mathlib.Core.Path.{◌≡◌, refl, sym, ◌∙◌, ap, ap₂}
use mathlib.Core.Bool.{Bool, true, false, cond}
use mathlib.Core.List.{List}
use Prim.Native.Nat.{ℕ, ◌+◌, ◌*◌, ◌≤◌, ◌<◌}
use native.Mathlib.Omega.{arith}
use lib.Dec.{eqb}
use lib.ListN.{length}
use lib.Ieee.{Float, nan}
use Rattle.lists.specs.Fold.{fold}
use Rattle.lists.proofs.Filling.{length-build, get_or-build}
use Rattle.lists.proofs.Folding.{fold_same}
use Rattle.lists.proofs.Parts.{length_part, length-put, row_fits, part-put, on-put, put_same}
use Rattle.numbers.specs.Number.{◌-ᶠ◌, ◌*ᶠ◌, ◌/ᶠ◌}
use Rattle.numbers.specs.Slice.{at}
use Rattle.matrix.specs.Product.{cell}
use Rattle.elimination.specs.Rows.{row_of, on_row, swapped, divided_row, less_row, eliminated_row, eliminated, cleared_by}
use Rattle.elimination.proofs.Entries.{part-entry, less-entry, length-less, row-entry, step-length, step-entry}

-- the row that stands in row i once row k has taken the place of row p
abbrev pub before : ℕ → ℕ → ℕ → ℕ
before k p i = cond (eqb i p) k i

-- column z of row i, cleared: x are the entries before, and q the pivot's row, divided
abbrev pub new_entry : (ℕ → Float) → (ℕ → ℕ → Float) → ℕ → ℕ → ℕ → ℕ → Float
new_entry q x k p i z = cond (eqb i k) (q z) (x (before k p i) z -ᶠ x (before k p i) k *ᶠ q z)

-- ---- the matrix beside the identity

length-divided : (k : ℕ) (r : List Float) → length (divided_row k r) ≡ length r
unfolding divided_row
length-divided k r = length-build (length r) _

-- row r, put in row k, was divided there and taken from the others
eliminated-by : (n w k : ℕ) (r l : List Float) → k * w + w ≤ length l → length r ≡ w
    → fold n (eliminated_row (divided_row k r) w k) (on_row w k (λ _. divided_row k r) l) ≡ eliminated n w k (on_row w k (divided_row k) (on_row w k (λ _. r) l))
unfolding eliminated
eliminated-by n w k r l h e =
    sym
    (ap (λ (m : List Float). fold n (eliminated_row (row_of w k m) w k) m) (on-put (k * w) w (divided_row k) r l h e)
    ∙ ap (λ (p : List Float). fold n (eliminated_row p w k) (on_row w k (λ _. divided_row k r) l)) (part-put (k * w) w (divided_row k r) l h (length-divided k r ∙ e)))

-- row i by itself
abbrev row_step : List Float → ℕ → ℕ → List Float → List Float
row_step q k i r = cond (eqb i k) r (less_row q (at r k) r)

row_step_lem : (q : List Float) (w k i : ℕ) (l : List Float) → k < w → eliminated_row q w k i l ≡ on_row w i (row_step q k i) l
unfolding eliminated_row
row_step_lem q w k i l kw = go (eqb i k)
  where
    go : (t : Bool) → cond t l (on_row w i (less_row q (at l (i * w + k))) l) ≡ on_row w i (λ r. cond t r (less_row q (at r k) r)) l
    go true = sym (put_same (i * w) w l)
    go false = ap (λ (f : Float). on_row w i (less_row q f) l) (sym (part-entry (i * w) w l k kw))

step_keeps : (q : List Float) (w k i : ℕ) (r : List Float) → length r ≡ w → length (row_step q k i r) ≡ w
step_keeps q w k i r h = go (eqb i k)
  where
    go : (t : Bool) → length (cond t r (less_row q (at r k) r)) ≡ w
    go true = h
    go false = length-less q r (at r k) ∙ h

module _ (n w k p : ℕ) (l : List Float) (kn : k < n) (pn : p < n) (kw : k < w) (f : n * w ≤ length l) where
  fk : k * w + w ≤ length l
  fk = row_fits k n w (length l) kn f

  fp : p * w + w ≤ length l
  fp = row_fits p n w (length l) pn f

  moved : List Float
  moved = on_row w p (λ _. row_of w k l) l

  length_moved : length moved ≡ length l
  unfolding moved
  length_moved = length-put (p * w) w (row_of w k l) l fp (length_part (k * w) w l fk)

  divided : List Float
  divided = divided_row k (row_of w p l)

  long : length divided ≡ w
  unfolding divided
  long = length-divided k (row_of w p l) ∙ length_part (p * w) w l fp

  start : List Float
  start = on_row w k (λ _. divided) moved

  length-start : length start ≡ length l
  unfolding start
  length-start = length-put (k * w) w divided moved (omega (arith, fk, length_moved)) long ∙ length_moved

  cleared-steps : cleared_by n w k p l ≡ fold n (λ i. on_row w i (row_step divided k i)) start
  unfolding cleared_by swapped moved divided start
  cleared-steps =
      sym (eliminated-by n w k (row_of w p l) moved (omega (arith, fk, length_moved)) (length_part (p * w) w l fp))
      ∙ fold_same (eliminated_row divided w k) (λ i. on_row w i (row_step divided k i)) n start (λ i t _. row_step_lem divided w k i t kw)

  pub length-cleared : length (cleared_by n w k p l) ≡ length l
  length-cleared = ap length cleared-steps ∙ step-length w (row_step divided k) (step_keeps divided w k) n start (omega (arith, length-start)) ∙ length-start

  abbrev quotient : ℕ → Float
  quotient z = cell w l p z /ᶠ cell w l p k

  divided-entry : (z : ℕ) → z < w → at divided z ≡ quotient z
  unfolding divided divided_row
  divided-entry z h = get_or-build nan (length (row_of w p l)) z _ (omega (arith, length_part (p * w) w l fp)) ∙ ap₂ ◌/ᶠ◌ (part-entry (p * w) w l z h) (part-entry (p * w) w l k kw)

  moved-entry : (i z : ℕ) → z < w → cell w moved i z ≡ cell w l (before k p i) z
  unfolding moved
  moved-entry i z h = row-entry w p (row_of w k l) l fp (length_part (k * w) w l fk) i z h ∙ go (eqb i p)
    where
      go : (t : Bool) → cond t (at (row_of w k l) z) (cell w l i z) ≡ cell w l (cond t k i) z
      go true = part-entry (k * w) w l z h
      go false = refl

  start-entry : (i z : ℕ) → z < w → at (row_of w i start) z ≡ cond (eqb i k) (quotient z) (cell w l (before k p i) z)
  unfolding start
  start-entry i z h =
      part-entry (i * w) w start z h
      ∙ row-entry w k divided moved (omega (arith, fk, length_moved)) long i z h
      ∙ ap₂ (λ (x y : Float). cond (eqb i k) x y) (divided-entry z h) (moved-entry i z h)

  pub cleared-entry : (i z : ℕ) → i < n → z < w → cell w (cleared_by n w k p l) i z ≡ new_entry quotient (cell w l) k p i z
  cleared-entry i z il zw =
      ap (λ (m : List Float). cell w m i z) cleared-steps
      ∙ step-entry w (row_step divided k) (step_keeps divided w k) n start (omega (arith, length-start)) i z il zw
      ∙ go (eqb i k) refl
    where
      go : (t : Bool) → eqb i k ≡ t → at (cond t (row_of w i start) (less_row divided (at (row_of w i start) k) (row_of w i start))) z ≡ cond t (quotient z) (cell w l (before k p i) z -ᶠ cell w l (before k p i) k *ᶠ quotient z)
      go true t = start-entry i z zw ∙ ap (λ (b : Bool). cond b (quotient z) (cell w l (before k p i) z)) t
      go false t =
          less-entry divided (row_of w i start) (at (row_of w i start) k) z (omega (arith, length_part (i * w) w start (omega (arith, row_fits i n w (length l) il f, length-start))))
          ∙ ap₂ (λ (x y : Float). x -ᶠ y *ᶠ at divided z)
          (start-entry i z zw ∙ ap (λ (b : Bool). cond b (quotient z) (cell w l (before k p i) z)) t)
          (start-entry i k kw ∙ ap (λ (b : Bool). cond b (quotient k) (cell w l (before k p i) k)) t)
          ∙ ap (λ (y : Float). cell w l (before k p i) z -ᶠ cell w l (before k p i) k *ᶠ y) (divided-entry z zw)
