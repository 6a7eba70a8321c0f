-- A product does not depend on the order of its factors. Assumes nothing.
use Prim.Native.Nat.{ℕ, ◌*◌}
use mathlib.Core.Path.{◌≡◌, refl, ap, ap₂, ◌∙◌}
use mathlib.Core.Bool.{Bool, true, false, cond}
use native.Mathlib.Nat.{mul_comm}
use lib.Dec.{eqb}
use lib.Ieee.{Float, nan, inf, fin, binary64, unlike, up, down, round, mul}

unlike-comm : (s t : Bool) → unlike s t ≡ unlike t s
unlike-comm true true = refl
unlike-comm true false = refl
unlike-comm false true = refl
unlike-comm false false = refl

pub product-comm : (x y : Float) → mul binary64 x y ≡ mul binary64 y x
unfolding mul
product-comm nan nan = refl
product-comm nan (inf t) = refl
product-comm nan (fin t n d) = refl
product-comm (inf s) nan = refl
product-comm (inf s) (inf t) = ap inf (unlike-comm s t)
product-comm (inf s) (fin t n d) = ap (λ (b : Bool). cond (eqb n 0) nan (inf b)) (unlike-comm s t)
product-comm (fin s m e) nan = refl
product-comm (fin s m e) (inf t) = ap (λ (b : Bool). cond (eqb m 0) nan (inf b)) (unlike-comm s t)
product-comm (fin s m e) (fin t n d) =
    ap (λ (b : Bool). round binary64 b (m * up e * (n * up d)) (down e * down d)) (unlike-comm s t)
    ∙ ap₂ (λ (a c : ℕ). round binary64 (unlike t s) a c) (mul_comm (m * up e) (n * up d)) (mul_comm (down e) (down d))
