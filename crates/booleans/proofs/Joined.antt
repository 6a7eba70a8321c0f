-- Tests that are joined by `||` and `&&`: what the whole says of its parts, and the parts of the whole. Assumes nothing.
use mathlib.Core.Bool.{Bool, true, false, ◌&&◌, ◌||◌}
use mathlib.Core.Path.{◌≡◌, refl, sym, ◌∙◌, subst}
use mathlib.Core.Logic.{◌⊎◌, inl, inr}
use lib.Dec.{T}

-- true is not false
pub clash : {A : Type 0} (b : Bool) → b ≡ true → b ≡ false → A
clash b t f = absurd (subst T (sym t ∙ f) tt)

pub neither : (a b : Bool) → a || b ≡ false → (a ≡ false) × (b ≡ false)
neither true b e = clash true refl e
neither false b e = (refl, e)

pub or_no : (a b : Bool) → a ≡ false → b ≡ false → a || b ≡ false
or_no true b e h = e
or_no false b e h = h

pub or_left : (a b : Bool) → a ≡ true → a || b ≡ true
or_left true b e = refl
or_left false b e = clash false e refl

pub or_right : (a b : Bool) → b ≡ true → a || b ≡ true
or_right true b e = refl
or_right false b e = e

pub or_cases : (a b : Bool) → a || b ≡ true → (a ≡ true) ⊎ (b ≡ true)
or_cases true b e = inl refl
or_cases false b e = inr e

pub and_both : (a b : Bool) → a && b ≡ true → (a ≡ true) × (b ≡ true)
and_both true b e = (refl, e)
and_both false b e = clash false e refl

pub and-true : (a : Bool) → a && true ≡ a
and-true true = refl
and-true false = refl

pub and_assoc : (a b c : Bool) → (a && b) && c ≡ a && (b && c)
and_assoc true b c = refl
and_assoc false b c = refl

pub and_no : (a b : Bool) → b ≡ false → a && b ≡ false
and_no true b h = h
and_no false b h = refl

-- of a false `&&` one part holds, so the other does not
pub first-not : (a b : Bool) → b ≡ true → a && b ≡ false → a ≡ false
first-not true b h e = clash b h e
first-not false b h e = refl

pub second-not : (a b : Bool) → a ≡ true → a && b ≡ false → b ≡ false
second-not true b h e = e
second-not false b h e = clash false h refl
