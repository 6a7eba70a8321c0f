-- The first word at fault, along a part of the layout (document 01, refusal 15: the lowest place is given).
use Rattle.std.specs.Option.{option_or}
use Rattle.std.specs.Prelude.{Option, None, Some, ℕ, ◌+◌, cond, List, [], ◌∷◌, leb}
use Rattle.card_layout.specs.Layout.{Role, faulty}

-- the place of a word at fault
abbrev pub Fault : Type 0
Fault = Option ℕ

-- the first of two, where the places of the first are the lower ones
abbrev pub first_of : Fault → Fault → Fault
first_of a b = option_or a b

-- the lower of two places
unfoldable pub earlier : Fault → Fault → Fault
earlier (Some p) (Some q) = cond (leb p q) (Some p) (Some q)
earlier (Some p) None = Some p
earlier None b = b

-- the first word at fault of a part of the layout that starts at place p
unfoldable pub walk : List ℕ → ℕ → List Role → Fault
walk s p [] = None
walk s p (r ∷ l) = cond (faulty s p r) (Some p) (walk s (p + 1) l)
