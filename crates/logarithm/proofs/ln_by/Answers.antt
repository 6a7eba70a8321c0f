use Rattle.std.proofs.Common.{T, sym, subst}
use lib.Ieee.{div, of_bits}
use Rattle.significand.proofs.Exact.{finite-units, infinite}
use Rattle.logarithm.proofs.Cases.{of-infinity, of-finite, of_other}
use Rattle.logarithm.proofs.ln_by.Goals as goal

pub returns-in-Some : goal.returns-in-Some
unfolding of_bits
returns-in-Some c =
    let e = c.in-Some.ensures in
    rw (of-finite _ _ _ c.if-x.true (finite-units _ e.0), ← e.1, ← e.2) c.ln_of.ensures

pub returns-in-None : goal.returns-in-None
unfolding of_bits
returns-in-None c = of-infinity _ _ _ (infinite _ (subst T (sym c.well_formed.1.1.0.1) tt) c.if-x.true c.in-None.ensures.0)

pub returns : goal.returns
unfolding of_bits div
returns c = of_other _ _ _ c.if-x.false
