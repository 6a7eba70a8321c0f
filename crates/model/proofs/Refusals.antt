-- The test of a model does not end in refusal 16. Assumes nothing.
use Prim.Native.Nat.{ℕ}
use mathlib.Core.Path.{refl}
use mathlib.Core.Bool.{false, not}
use mathlib.Core.List.{List}
use borrow.Author.Tests.{eqb-false}
use lib.Dec.{eqb}
use Rattle.numbers.specs.Slice.{all_finite}
use Rattle.refusal.specs.declared.Reason.TheVariants.{Name}
use Rattle.refusal.specs.declared.Refusal.TheVariants.{Shape, NonFinite, InvalidGstOptimization}
use Rattle.refusal.proofs.Lower.{Lower, lower-good, lower-refused, lower-either}
use Rattle.card_layout.specs.declared.Header.{Header}
use Rattle.model.specs.Checked.{any_of, Parts, bad_name, bad_gate, tested_of, on_card, checked_of}

pub lower-tested : (m : Parts) → Lower (tested_of m)
lower-tested m =
    let n = lower-refused NonFinite (eqb-false 3 16 refl) in
    lower-either (eqb m.dimension 0) n
    (lower-either (not (all_finite m.state)) n
    (lower-either (eqb m.effects 0) (lower-refused (Shape m.dimension 0) (eqb-false 2 16 refl))
    (lower-either (bad_gate m) n
    (lower-either (any_of false m.gates (bad_name m.name)) (lower-refused (InvalidGstOptimization Name) (eqb-false 13 16 refl)) lower-good))))

pub lower-model : (s : List ℕ) (h : Header) → Lower (checked_of s h)
unfolding checked_of
lower-model s h = lower-tested (on_card s h)
