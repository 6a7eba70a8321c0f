use mathlib.Core.Path.{sym, ◌∙◌, subst}
use native.Mathlib.Omega.{arith}
use lib.Dec.{T}
use Prim.Native.Nat.{◌%◌}
use lib.Ieee.{binary64, to_bits}
use Rattle.significand.proofs.Pattern.{none, no-units, no_nan, Shifted, is-shifted, of_zero, of_low, of-high}
use Rattle.significand.proofs.parts_of.Goals as goal
use Rattle.significand.proofs.parts_of.Goals.{Then-field-eq0}

shifted : (c : Then-field-eq0) → Shifted (to_bits binary64 c.args.x % 0x8000_0000_0000_0000)
shifted c = is-shifted _ (subst T (sym c.well_formed.0.1) tt) (sym c.is_finite.ensures ∙ c.if-not-is_finite.false) c.if-w-eq0.false c.if-field-eq0.true

pub returns-then-not-is_finite : goal.returns-then-not-is_finite
returns-then-not-is_finite c = none _ (no-units _ (sym c.is_finite.ensures ∙ c.if-not-is_finite.true))

pub float_to_bits-w : goal.float_to_bits-w
float_to_bits-w c = no_nan _ (sym c.is_finite.ensures ∙ c.if-not-is_finite.false)

pub returns-then-w-eq0 : goal.returns-then-w-eq0
returns-then-w-eq0 c = none _ (of_zero _ (subst T (sym c.well_formed.0.1) tt) (sym c.is_finite.ensures ∙ c.if-not-is_finite.false) c.if-w-eq0.true)

pub overflow_sub-s : goal.overflow_sub-s
overflow_sub-s c = omega (arith, (shifted (goal.at.overflow_sub-s c).Then-field-eq0).least)

pub invariant_of-result : goal.invariant_of-result
invariant_of-result c =
    let p = of_low _ (subst T (sym c.well_formed.0.1) tt) (sym c.is_finite.ensures ∙ c.if-not-is_finite.false) c.if-w-eq0.false c.if-field-eq0.true in
    record { low = p.low; high = p.high; reach = p.reach }

pub returns-then-field-eq0 : goal.returns-then-field-eq0
returns-then-field-eq0 c =
    let p = of_low _ (subst T (sym c.well_formed.0.1) tt) (sym c.is_finite.ensures ∙ c.if-not-is_finite.false) c.if-w-eq0.false c.if-field-eq0.true in
    (p.some, p.significand, p.exponent)

pub invariant_of-result-2 : goal.invariant_of-result-2
invariant_of-result-2 c =
    let p = of-high _ (subst T (sym c.well_formed.0.1) tt) (sym c.is_finite.ensures ∙ c.if-not-is_finite.false) c.if-field-eq0.false in
    record { low = p.low; high = p.high; reach = p.reach }

pub returns : goal.returns
returns c =
    let p = of-high _ (subst T (sym c.well_formed.0.1) tt) (sym c.is_finite.ensures ∙ c.if-not-is_finite.false) c.if-field-eq0.false in
    (p.some, p.significand, p.exponent)
