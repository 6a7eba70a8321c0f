-- The order of numbers: what is at most another is not above it. Assumes nothing.
use mathlib.Core.Path.{◌≡◌, refl}
use mathlib.Core.Bool.{Bool, true, false, ◌&&◌, ◌||◌}
use mathlib.Core.Logic.{◌⊎◌, inl, inr}
use Prim.Native.Nat.{ℕ, ◌+◌, ◌*◌, ◌<◌, ◌≤◌}
use native.Mathlib.Nat.{le_of_eq, le_of_lt}
use native.Mathlib.Omega.{arith}
use lib.Dec.{eqb, ltb}
use lib.Ieee.{Float, nan, inf, fin, up, down, lt, le, below, level}
use borrow.Author.Tests.{ltb-true, eqb-true, le-ltb}
use Rattle.std.proofs.lemmas.Bool.{or_cases, and_parts}
use Rattle.numbers.proofs.Leaves.{clash}

-- ±a ≤ ±b by their sizes
plain-le : (a b : ℕ) (r : Bool) → ltb a b || (eqb a b && r) ≡ true → a ≤ b
plain-le a b r h = go (or_cases (ltb a b) (eqb a b && r) h)
  where
    go : (ltb a b ≡ true) ⊎ (eqb a b && r ≡ true) → a ≤ b
    go (inl e) = le_of_lt (ltb-true a b e)
    go (inr e) = le_of_eq (eqb-true a b (and_parts (eqb a b) r e).0)

-- a ≤ -b: both are zero
zeros : (a b : ℕ) → eqb a b && eqb a 0 ≡ true → (a ≡ 0) × (b ≡ 0)
zeros a b h =
    let p : a ≡ b = eqb-true a b (and_parts (eqb a b) (eqb a 0) h).0 in
    let q : a ≡ 0 = eqb-true a 0 (and_parts (eqb a b) (eqb a 0) h).1 in
    (q, omega arith)

signed : (s t : Bool) (a b : ℕ) → below s a t b || level s a t b ≡ true → below t b s a ≡ false
signed false false a b h = le-ltb b a (plain-le a b _ h)
signed false true a b h = let z = zeros a b h in le-ltb 0 (b + a) (omega arith)
signed true false a b h = refl
signed true true a b h = go (or_cases (ltb b a) _ h)
  where
    go : (ltb b a ≡ true) ⊎ (eqb a b && true ≡ true) → ltb a b ≡ false
    go (inl e) = let l : b < a = ltb-true b a e in le-ltb a b (omega arith)
    go (inr e) = let l : a ≡ b = eqb-true a b (and_parts (eqb a b) true e).0 in le-ltb a b (omega arith)

pub not-above : (x y : Float) → le x y ≡ true → lt y x ≡ false
unfolding le lt
not-above nan y h = clash h
not-above (inf s) nan h = refl
not-above (inf true) (inf true) h = refl
not-above (inf true) (inf false) h = refl
not-above (inf false) (inf true) h = clash h
not-above (inf false) (inf false) h = refl
not-above (inf true) (fin t n d) h = refl
not-above (inf false) (fin t n d) h = clash h
not-above (fin s m e) nan h = refl
not-above (fin s m e) (inf false) h = refl
not-above (fin s m e) (inf true) h = clash h
not-above (fin s m e) (fin t n d) h = signed s t (m * up e * down d) (n * up d * down e) h
