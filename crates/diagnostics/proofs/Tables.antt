-- The logarithm by its tables. Assumes nothing.
use Prim.Native.Nat.{ℕ}
use mathlib.Core.Path.{◌≡◌, ◌∙◌, ap}
use mathlib.Core.Bool.{Bool}
use mathlib.Core.List.{List}
use lib.Ieee.{Float}
use Rattle.numbers.specs.Slice.{at}
use Rattle.logarithm.specs.Steps.{ln_by}
use Rattle.logarithm.specs.Error.{Tabled}
use Rattle.logarithm.proofs.Lent.{by-tables}
use Rattle.card_layout.specs.declared.Header.{Header}
use Rattle.likelihood.specs.Multinomial.{Likelihood}
use Rattle.diagnostics.specs.Diagnostics.{likelihood_by, likelihood_of}

pub by-logarithm : (q r : List Float) → Tabled q r → (b : Bool) (tolerance : Float) (s : List ℕ) (h : Header) (m : List Float) (l : Likelihood)
    → l ≡ likelihood_by (ln_by (at q) (at r)) b tolerance s h m → l ≡ likelihood_of b tolerance s h m
by-logarithm q r t b tolerance s h m l e = e ∙ ap (λ (f : Float → Float). likelihood_by f b tolerance s h m) (by-tables q r t)
