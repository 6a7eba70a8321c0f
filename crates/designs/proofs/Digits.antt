-- A digit by its place, and the entries of the table. Assumes nothing.
use mathlib.Core.Path.{◌≡◌, sym, ap, ◌∙◌}
use mathlib.Core.List.{List, [], ◌∷◌}
use Prim.Native.Nat.{ℕ, zero, suc, ◌-◌, ◌*◌, ◌/◌, ◌%◌, ◌^◌, ◌<◌}
use native.Mathlib.Nat.{div-one, one-mul, mod-lt, pow-zero, pow-suc}
use native.Mathlib.Omega.{arith}
use lib.ListN.{get_or, take, drop}
use lib.Seq.{get_or-take, get_or-drop}
use lib.Ieee.{Float, nan, neg}
use Rattle.numbers.specs.Number.{zero_f, one_f}
use Rattle.designs.specs.Digit.{digit_of}
use Rattle.designs.specs.Probes.{local_expectations, local}

module _ (b n code q : ℕ) (some : 0 < b) where
  by-place : (p d : ℕ) → b ^ (n - 1 - q) ≡ p → d ≡ code / p → (d % b ≡ digit_of b n code q) × (d % b < b)
  unfolding digit_of
  by-place p d e f = (ap (λ (z : ℕ). z % b) f ∙ ap (λ (z : ℕ). code / z % b) (sym e), mod-lt d some)

  first-power : b ^ 1 ≡ b
  first-power = pow-suc b 0 ∙ ap (λ (z : ℕ). z * b) (pow-zero b) ∙ one-mul b

  pub lowest : n - 1 - q ≡ 0 → (code % b ≡ digit_of b n code q) × (code % b < b)
  lowest e = by-place 1 code (ap (λ (k : ℕ). b ^ k) e ∙ pow-zero b) (sym (div-one code))

  pub middle : n - 1 - q ≡ 1 → (code / b % b ≡ digit_of b n code q) × (code / b % b < b)
  middle e = by-place b (code / b) (ap (λ (k : ℕ). b ^ k) e ∙ first-power) (λ i. code / b)

  pub highest : n - 1 - q ≡ 2 → (code / (b * b) % b ≡ digit_of b n code q) × (code / (b * b) % b < b)
  highest e = by-place (b * b) (code / (b * b)) (ap (λ (k : ℕ). b ^ k) e ∙ pow-suc b 1 ∙ ap (λ (z : ℕ). z * b) first-power) (λ i. code / (b * b))

-- ---- the table, flat and by rows
row : (s a : ℕ) → a < 4 → get_or (take 4 (drop (s * 4) local_expectations)) a nan ≡ local s a
unfolding local
row s a h = get_or-take 4 (drop (s * 4) local_expectations) a nan h ∙ get_or-drop (s * 4) local_expectations a nan

abbrev pub rows : List (List Float)
rows =
    (one_f ∷ zero_f ∷ zero_f ∷ one_f ∷ [])
    ∷ (one_f ∷ zero_f ∷ zero_f ∷ neg one_f ∷ [])
    ∷ (one_f ∷ one_f ∷ zero_f ∷ zero_f ∷ [])
    ∷ (one_f ∷ zero_f ∷ one_f ∷ zero_f ∷ [])
    ∷ []

pub entry : (s a : ℕ) → s < 4 → a < 4 → get_or (get_or rows s []) a nan ≡ local s a
unfolding local_expectations
entry zero a h l = row 0 a l
entry (suc zero) a h l = row 1 a l
entry (suc (suc zero)) a h l = row 2 a l
entry (suc (suc (suc zero))) a h l = row 3 a l
entry (suc (suc (suc (suc s)))) a h l = absurd (omega arith)
