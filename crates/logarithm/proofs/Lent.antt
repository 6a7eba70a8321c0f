-- By tables that are `Tabled`, the logarithm by lent tables is the logarithm. Assumes nothing.
use Rattle.std.proofs.Common.{◌≡◌, ℕ, ◌-◌, ◌/◌, ◌^◌, ◌<◌, cond, List, ap, ◌∙◌, arith, lit<}
use lib.Ieee.{Float, nan, lt}
use Rattle.lists.proofs.Filling.{get_or-build}
use Rattle.numbers.specs.Number.{finite, zero_f}
use Rattle.numbers.specs.Slice.{at}
use Rattle.significand.specs.Significand.{significand_of, exponent_of}
use Rattle.significand.proofs.Exact.{significand-lt}
use Rattle.logarithm.specs.Steps.{ln_of, ln_by, ln, quotient_f, remainder_f}
use Rattle.logarithm.specs.Error.{Tabled}

module _ (q r : List Float) (t : Tabled q r) where
  quotient_is : (j : ℕ) → j < 257 → at q j ≡ quotient_f j
  quotient_is j h = ap (λ (l : List Float). at l j) t.quotients ∙ get_or-build nan 257 j quotient_f h

  remainder_is : (j : ℕ) → j < 257 → at r j ≡ remainder_f j
  remainder_is j h = ap (λ (l : List Float). at l j) t.remainders ∙ get_or-build nan 257 j remainder_f h

  of_parts : (m n : ℕ) → m < 2 ^ 53 → ln_of (at q) (at r) m n ≡ ln_of quotient_f remainder_f m n
  unfolding ln_of
  of_parts m n h =
      let j : ℕ = m / 2 ^ 44 - 256 in
      let l : m / 2 ^ 44 - 256 < 257 = omega arith in
      rw (quotient_is 256 (lit< tt), quotient_is j l, remainder_is 256 (lit< tt), remainder_is j l)

  pub by-tables : ln_by (at q) (at r) ≡ ln
  unfolding ln ln_by
  by-tables = λ i x. cond (lt zero_f x) (cond (finite x) (of_parts (significand_of x) (exponent_of x) (significand-lt x) i) x) nan
