-- The square root of what is not a finite number above zero. Assumes nothing.
use mathlib.Core.Path.{◌≡◌, refl, sym, ap, subst}
use mathlib.Core.Bool.{true, false, beq, ◌||◌}
use Prim.Native.Nat.{ℕ, zero, suc, ◌*◌, ◌<◌}
use native.Mathlib.Nat.{mul-one, zero-mul, mul-pos, zero-lt-suc}
use native.Mathlib.Omega.{arith}
use lib.IntN.{ℤ}
use lib.Dec.{T, eqb, eqb→eq}
use lib.Ieee as Ieee
use lib.Ieee.{Float, nan, inf, fin, binary64, up, down, fits, of_bits, lt, eq}
use lib.Ieee.Fits.{up_pos, and_l}
use borrow.Author.Tests.{ltb-true}
use Rattle.numbers.specs.Number.{zero_f}
use Rattle.numbers.proofs.Leaves.{clash, zero_exponent}
use Rattle.root.specs.Root.{sqrt}

pub of-infinity : (x : Float) → x ≡ inf false → sqrt x ≡ inf false
unfolding Ieee.sqrt
of-infinity x e = ap sqrt e

pub of-nan : (x : Float) → x ≡ nan → sqrt x ≡ nan
unfolding Ieee.sqrt
of-nan x e = ap sqrt e

pub of-negative : (x : Float) → lt x zero_f ≡ true → sqrt x ≡ nan
unfolding Ieee.sqrt lt of_bits
of-negative nan h = clash h
of-negative (inf true) h = refl
of-negative (inf false) h = clash h
of-negative (fin true zero e) h = clash (simp zero-mul at h)
of-negative (fin true (suc m) e) h = refl
of-negative (fin false m e) h = absurd (omega (arith, zero-mul (down e), ltb-true (m * up e * 1) (0 * down e) h))

-- what is no zero has units
some-units : (m : ℕ) (e : ℤ) → 0 < suc m * up e * 1
some-units m e = rw mul-one (mul-pos (zero-lt-suc m) (up_pos e))

pub of-zero : (x : Float) → T (fits binary64 x) → eq x zero_f ≡ true → sqrt x ≡ x
unfolding Ieee.sqrt eq of_bits
of-zero nan f h = clash h
of-zero (inf s) f h = clash h
of-zero (fin s zero e) f h = ap (fin s 0) (sym (zero_exponent s e f))
of-zero (fin s (suc m) e) f h =
    absurd (omega (arith, some-units m e, zero-mul (down e), eqb→eq (suc m * up e * 1) (0 * down e) (and_l (eqb (suc m * up e * 1) (0 * down e)) (beq s false || eqb (suc m * up e * 1) 0) (subst T (sym h) tt))))
