-- The tests before a transfer matrix is applied, and what follows them. Assumes nothing.
use Rattle.std.proofs.Common.{Err}
use Rattle.refusal.specs.Verdicts.{good, Verdict, first_of, after, checked_numbers}
use Prim.Native.Nat.{ℕ, ◌*◌}
use mathlib.Core.Path.{◌≡◌, sym, ap, ap₂, ◌∙◌}
use mathlib.Core.List.{List, []}
use lib.ListN.{length}
use lib.Ieee.{Float}
use Rattle.refusal.specs.declared.Refusal.{Refusal}
use Rattle.refusal.proofs.Verdicts.{both-good, good_length}
use Rattle.matrix.specs.Product.{mat_vec_of}
use Rattle.transfer.specs.Apply.{applied_of, applied_numbers}

module _ (p : ℕ) (values input : List Float) where
  -- the two tests, as calls gave them
  pub verdict-is : (m : ℕ) (a b w : Verdict) → m ≡ p * p → a ≡ checked_numbers m values → b ≡ checked_numbers p input → w ≡ first_of a b → w ≡ applied_of p values input
  unfolding applied_of
  verdict-is m a b w e f g h = h ∙ ap₂ first_of (f ∙ ap (λ (m : ℕ). checked_numbers m values) e) g

  pub refused-numbers : (w : Verdict) (r : Refusal) → w ≡ applied_of p values input → w ≡ Err r → [] ≡ applied_numbers p values input
  unfolding applied_numbers
  refused-numbers w r e f = ap (λ (x : Verdict). after x (λ _. []) (mat_vec_of p values input)) (sym f ∙ e)

  pub good-numbers : good ≡ applied_of p values input → mat_vec_of p values input ≡ applied_numbers p values input
  unfolding applied_numbers
  good-numbers e = ap (λ (x : Verdict). after x (λ _. []) (mat_vec_of p values input)) e

  pub good-lengths : good ≡ applied_of p values input → (length values ≡ p * p) × (length input ≡ p)
  unfolding applied_of
  good-lengths e =
      let b = both-good (checked_numbers (p * p) values) (checked_numbers p input) e in
      (good_length (p * p) values b.0, good_length p input b.1)
