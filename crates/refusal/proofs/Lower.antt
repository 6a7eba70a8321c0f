-- Verdicts that are not refusal 16, the one that only the length of a slice decides. Assumes nothing.
use Rattle.std.proofs.Common.{Err, Ok}
use Rattle.refusal.specs.Verdicts.{good, Verdict, first_of, finite_or, checked_numbers, counted_of}
use Prim.Native.Nat.{ℕ}
use mathlib.Core.Path.{◌≡◌, refl, ap, subst, ◌∙◌}
use mathlib.Core.Bool.{Bool, true, false, cond}
use mathlib.Core.List.{List}
use borrow.Author.Tests.{eqb-false}
use lib.Dec.{eqb}
use lib.ListN.{length}
use lib.Ieee.{Float}
use Rattle.lists.specs.Fold.{fold}
use Rattle.lists.proofs.Folding.{fold-keeps}
use Rattle.numbers.specs.Slice.{all_finite}
use Rattle.refusal.specs.declared.Refusal.{Refusal}
use Rattle.refusal.specs.declared.Refusal.TheVariants.{Shape, NonFinite}
use Rattle.refusal.specs.Values.{code_of}
use Rattle.refusal.proofs.Verdicts.{never-good, count-first}

pub record Lower (v : Verdict) : Type 0 where
  pub low : (r : Refusal) → v ≡ Err r → code_of r ≡ 16 → ⊥

pub lower-good : Lower good
lower-good = record { low = λ r e. absurd (never-good e) }

pub lower-refused : (r : Refusal) → (code_of r ≡ 16 → ⊥) → Lower (Err r)
lower-refused r h = record { low = λ q e z. h (same r q e ∙ z) }
  where
    same : (r q : Refusal) → ◌≡◌ {A = Verdict} (Err r) (Err q) → code_of r ≡ code_of q
    same r q e = let f : r ≡ q = cc in ap code_of f

pub lower-either : (b : Bool) {x y : Verdict} → Lower x → Lower y → Lower (cond b x y)
lower-either true p q = p
lower-either false p q = q

-- one test, which refuses by r
pub lower-test : (b : Bool) (r : Refusal) → (code_of r ≡ 16 → ⊥) → Lower (cond b good (Err r))
lower-test b r h = lower-either b lower-good (lower-refused r h)

pub lower-first : {x y : Verdict} → Lower x → Lower y → Lower (first_of x y)
lower-first {x = Ok _} p q = q
lower-first {x = Err r} p q = p

-- tests in a row
pub lower-each : (n : ℕ) (f : ℕ → Verdict) → ((i : ℕ) → Lower (f i)) → Lower (fold n (λ i v. first_of v (f i)) good)
lower-each n f h = fold-keeps _ Lower n good lower-good (λ i v _ p. lower-first p (h i))

pub lower-finite : (r : Refusal) (xs : List Float) → (code_of r ≡ 16 → ⊥) → Lower (finite_or r xs)
unfolding finite_or
lower-finite r xs h = lower-test (all_finite xs) r h

pub lower-counted : (wanted : ℕ) (xs : List Float) → Lower (counted_of wanted xs)
unfolding counted_of
lower-counted wanted xs = lower-test (eqb (length xs) wanted) (Shape wanted (length xs)) (eqb-false 2 16 refl)

pub lower-numbers : (wanted : ℕ) (xs : List Float) → Lower (checked_numbers wanted xs)
lower-numbers wanted xs = subst Lower (count-first wanted xs) (lower-first (lower-counted wanted xs) (lower-finite NonFinite xs (eqb-false 3 16 refl)))
