-- How long the parts of the layout are. Assumes nothing.
use Prim.Native.Nat.{ℕ, zero, suc, ◌+◌, ◌*◌}
use mathlib.Core.Path.{◌≡◌, sym, ap, ◌∙◌}
use mathlib.Core.List.{List, [], ◌∷◌}
use native.Mathlib.Nat.{suc-mul, zero-mul, mul-one}
use native.Mathlib.Numerals.{add-one}
use native.Mathlib.Omega.{arith}
use lib.ListN.{length, length-append}
use Rattle.card_layout.specs.Layout.{Role, number, name, count, times, numbers, model_roles, record_roles, sequence_roles}

pub length-times : (n : ℕ) (l : List Role) → length (times n l) ≡ n * length l
unfolding times
length-times zero l = sym (zero-mul (length l))
length-times (suc n) l = length-append (times n l) l ∙ ap (λ (k : ℕ). k + length l) (length-times n l) ∙ sym (suc-mul n (length l))

pub length-each : (n : ℕ) (r : Role) → length (times n (r ∷ [])) ≡ n
length-each n r = length-times n (r ∷ []) ∙ mul-one n

-- n vectors of m numbers
pub length-vectors : (n m : ℕ) → length (times n (numbers m)) ≡ n * m
length-vectors n m = length-times n (numbers m) ∙ ap (λ (k : ℕ). n * k) (length-each m number)

pub length-model : (d e g : ℕ) → length (model_roles d e g) ≡ d + e * d + g * (1 + d * d)
unfolding model_roles
length-model d e g =
    length-append (numbers d) _
    ∙ ap (λ (k : ℕ). length (numbers d) + k) (length-append (times e (numbers d)) _)
    ∙ rw (length-vectors e d, length-times g (name ∷ numbers (d * d)), length-each d number, length-each (d * d) number)
    (omega (arith, ap (λ (k : ℕ). g * k) (add-one (d * d))))

pub length-record : (e : ℕ) → length (record_roles e) ≡ 5 + e
unfolding record_roles
length-record e = length-append sequence_roles (times e (count ∷ [])) ∙ ap (λ (k : ℕ). 5 + k) (length-each e count)

pub length-records : (n e : ℕ) → length (times n (record_roles e)) ≡ n * (5 + e)
length-records n e = length-times n (record_roles e) ∙ ap (λ (k : ℕ). n * k) (length-record e)
