-- The pivot's row, divided and lent, and a column cleared by it. Assumes nothing.
use mathlib.Core.Path.{◌≡◌, refl, ◌∙◌, ap, ap₂}
use mathlib.Core.Bool.{cond}
use mathlib.Core.List.{List, ◌++◌}
use Prim.Native.Nat.{ℕ, ◌+◌, ◌-◌, ◌*◌, ◌≤◌, ◌<◌}
use native.Mathlib.Omega.{arith}
use lib.Dec.{eqb}
use lib.ListN.{length, take, drop, set}
use lib.Ieee.{Float, nan}
use borrow.Author.Tests.{eq-eqb, ne_eqb}
use Rattle.lists.specs.Build.{build}
use Rattle.lists.specs.Fold.{fold}
use Rattle.lists.specs.Part.{part, on_part}
use Rattle.lists.proofs.Choices.{yes, no}
use Rattle.lists.proofs.Filling.{length-build, set-build}
use Rattle.lists.proofs.Parts.{part-lent, part-back, front-is, row_fits}
use Rattle.numbers.specs.Number.{one_f, ◌+ᶠ◌, ◌/ᶠ◌}
use Rattle.numbers.specs.Slice.{at}
use Rattle.elimination.specs.Rows.{on_row}
use Rattle.elimination.specs.Kept.{quotients, kept_row, kept_cleared}

pub length-quotients : (n : ℕ) (r : List Float) → length (quotients n r) ≡ n + 2
unfolding quotients
length-quotients n r = length-build (n + 2) _

-- all numbers of r divided by the first, and number n written over
pub divided-back : (n m : ℕ) (r l : List Float) → m ≡ n + 2 → l ≡ build m (λ j. at r j /ᶠ at r 0) → set l n ((at r n +ᶠ one_f) /ᶠ at r 0) ≡ quotients n r
unfolding quotients
divided-back n m r l h e =
    ap (λ (l : List Float). set l n ((at r n +ᶠ one_f) /ᶠ at r 0)) (e ∙ ap (λ (m : ℕ). build m (λ j. at r j /ᶠ at r 0)) h)
    ∙ set-build nan (n + 2) n (λ j. at r j /ᶠ at r 0) (λ j. cond (eqb j n) (at r j +ᶠ one_f) (at r j) /ᶠ at r 0) ((at r n +ᶠ one_f) /ᶠ at r 0) (omega arith)
    (ap (λ (x : Float). x /ᶠ at r 0) (yes _ (eq-eqb n n refl)))
    (λ j _ k. ap (λ (x : Float). x /ᶠ at r 0) (no _ (ne_eqb j n k) refl))

-- the numbers of row p that count in step k lie within m
pub counted-fits : (n k p m : ℕ) → k < n → p < n → n * (2 * n + 2) ≤ m → p * (2 * n + 2) + k + (n + 2) ≤ m
counted-fits n k p m h l f = let e = row_fits p n (2 * n + 2) m l f in omega arith

-- row i was lent by its places, and came back put through g
pub row-put : (i s e w : ℕ) (g : List Float → List Float) (l ys : List Float) → (s ≡ i * w) × (e ≡ i * w + w) → ys ≡ g (take (e - s) (drop s l))
    → take s l ++ (ys ++ drop (e - s) (drop s l)) ≡ on_row w i g l
row-put i s e w g l ys (h, k) y = part-back s e w g l ys (omega arith) y ∙ ap (λ (s : ℕ). on_part s w g l) h

-- q is the pivot's row, divided, at the front of z; l₁ the rows with row k in its place
pub cleared-back : (n k p e : ℕ) (l z q l₁ l₂ : List Float) → e ≡ p * (2 * n + 2) + k + (n + 2)
    → q ≡ quotients n (take (e - (p * (2 * n + 2) + k)) (drop (p * (2 * n + 2) + k) l))
    → l₁ ≡ on_part (p * (2 * n + 2) + k) (n + 2) (λ _. part (k * (2 * n + 2) + k) (n + 2) l) l
    → l₂ ≡ fold n (λ i. on_row (2 * n + 2) i (kept_row n k (take (n + 2) (q ++ drop (n + 2) z)) i)) l₁
    → l₂ ≡ kept_cleared n k p l
unfolding kept_cleared
cleared-back n k p e l z q l₁ l₂ h a b d =
    let r = part (p * (2 * n + 2) + k) (n + 2) l in
    let t : take (n + 2) (q ++ drop (n + 2) z) ≡ quotients n r = front-is (n + 2) q z (quotients n r) (a ∙ ap (quotients n) (part-lent (p * (2 * n + 2) + k) e (n + 2) l h)) (length-quotients n r) in
    d ∙ ap₂ (λ (q u : List Float). fold n (λ i. on_row (2 * n + 2) i (kept_row n k q i)) u) t b
