-- The vectors' places. Assumes nothing.
use Rattle.std.proofs.Common.{◌≡◌, ℕ, ◌+◌, ◌-◌, ◌*◌, ◌<◌, ◌≤◌, List, ◌++◌, take, drop, length, sym, refl, ap, ◌∙◌, le_trans, le_of_eq, mul_assoc, zero-mul, suc-mul, add-one, le_of_mul-le-mul_right, arith}
use Rattle.std.proofs.lemmas.List.{take-take, drop-take}
use lib.Ieee.{Float}
use lib.ListN.{length-take, length-drop, length-append}
use lib.Seq.{take_at, drop_at, drop-drop}
use Rattle.lists.proofs.Parts.{row_fits}
use Rattle.transfer.specs.Vectors.{vector_of}

-- vector k of 2 p lies within 2 p p numbers
vector-fits : (k p : ℕ) → k < 2 * p → k * p + p ≤ 2 * (p * p)
vector-fits k p h = omega (arith, row_fits k (2 * p) p (2 * p * p) h (omega arith), mul_assoc 2 p p)

-- the vectors from number k on
abbrev pub from : List Float → ℕ → ℕ → List Float
from v p k = take (2 * (p * p) - k * p) (drop (k * p) v)

pub from-first : (v : List Float) (p : ℕ) → take (2 * (p * p)) v ≡ from v p 0
from-first v p = let z : 2 * (p * p) - 0 ≡ 2 * (p * p) = omega arith in rw (zero-mul, z) refl

module _ (v : List Float) (p : ℕ) (some : 1 ≤ p) (long : 2 * (p * p) ≤ length v) where
  length-from : (k : ℕ) → length (from v p k) ≡ 2 * (p * p) - k * p
  length-from k = simp (length-take, length-drop) (omega (arith, long))

  -- one more
  pub next-vector : (k : ℕ) (x rest : List Float) → from v p k ≡ x ++ rest → length x ≡ p → (k + 1 ≤ 2 * p) × (x ≡ vector_of v p k) × (rest ≡ from v p (k + 1))
  next-vector k x rest e l =
      let m : length (from v p k) ≡ p + length rest = ap length e ∙ length-append x rest ∙ ap (λ (n : ℕ). n + length rest) l in
      let fit : k * p + p ≤ 2 * (p * p) = omega (arith, length-from k, m, some) in
      let next : (k + 1) * p ≡ k * p + p = rw add-one (suc-mul k p) in
      let left : 2 * (p * p) - k * p ≡ p + (2 * (p * p) - (k + 1) * p) = omega (arith, fit, next) in (
        le_of_mul-le-mul_right (le_trans (le_of_eq next) (le_trans fit (le_of_eq (sym (mul_assoc 2 p p))))) some,
        sym (take_at x rest p l) ∙ ap (take p) (sym e) ∙ take-take p (2 * (p * p) - k * p) (drop (k * p) v) (omega (arith, fit)),
        sym (drop_at x rest p l) ∙ ap (drop p) (sym e ∙ ap (λ (n : ℕ). take n (drop (k * p) v)) left) ∙ drop-take p (2 * (p * p) - (k + 1) * p) (drop (k * p) v)
            ∙ ap (take (2 * (p * p) - (k + 1) * p)) (drop-drop p (k * p) v ∙ ap (λ (n : ℕ). drop n v) (omega (arith, next))),
      )

  -- none left
  pub no-vector : (k : ℕ) → k ≤ 2 * p → length (from v p k) < p → k ≡ 2 * p
  no-vector k h l = omega (arith, end)
    where
      end : k < 2 * p → ⊥
      end g = omega (arith, vector-fits k p g, length-from k)
