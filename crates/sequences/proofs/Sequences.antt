-- Sizes of a model within the limits; a sequence that was copied, and its gates by columns; what the verdicts say. Assumes nothing.
use Rattle.std.proofs.Common.{Err}
use Rattle.refusal.specs.Verdicts.{good, Verdict, first_of, counted_of}
use Prim.Native.Nat.{ℕ, ◌+◌, ◌*◌, ◌≤◌, ◌<◌}
use mathlib.Core.Path.{◌≡◌, sym, ap, subst, ◌∙◌}
use mathlib.Core.Bool.{◌||◌}
use mathlib.Core.List.{List, ◌++◌}
use native.Mathlib.Nat.{mul-le-mul}
use borrow.Author.Tests.{ltb-false}
use lib.Dec.{ltb}
use lib.ListN.{length, get_or}
use lib.Ieee.{Float}
use Rattle.lists.proofs.Parts.{row_fits}
use Rattle.booleans.proofs.Joined.{neither}
use Rattle.refusal.specs.declared.Refusal.{Refusal}
use Rattle.refusal.proofs.Verdicts.{both-good, passed, counted}
use Rattle.card_layout.specs.Limits.{limits_of}
use Rattle.model.specs.Checked.{tested_of}
use Rattle.gate_set.specs.GateSet.{present_of, columns_in, probabilities_by, probabilities_of}
use Rattle.gate_set.proofs.Columns.{same-probabilities}
use Rattle.gate_set.proofs.Sequences.{present-below}
use Rattle.sequences.specs.Sequences.{limits_verdict, Sized, model_size, given_verdict, sequence_verdict, given}

pub products : (d e g : ℕ) → Sized d e g → (e * d ≤ 256) × (d * d ≤ 256) × (g * (d * d) ≤ 2048)
products d e g s =
    let q : d * d ≤ 256 = mul-le-mul s.dimension s.dimension in
    (mul-le-mul s.effects s.dimension, q, mul-le-mul s.gates q)

-- `room` holds the sequence, whose gates are there
module _ (gates : ℕ) (sequence room : List ℕ) (copied : room ≡ sequence) (good : present_of gates sequence ≡ good) where
  -- each gate lies among the columns
  pub gates-lie : (d n : ℕ) → gates * (d * d) ≤ n → (k : ℕ) → k < length room → get_or room k 0 * (d * d) + d * d ≤ n
  gates-lie d n h = subst (λ (l : List ℕ). (k : ℕ) → k < length l → get_or l k 0 * (d * d) + d * d ≤ n) (sym copied) (λ k l. row_fits (get_or sequence k 0) gates (d * d) n (present-below gates sequence good k l) h)

  -- by columns, the probabilities are those of the definition
  pub by-columns : (d e : ℕ) (m columns rest : List Float) → columns ≡ columns_in d e gates m ++ rest → probabilities_by d e m columns room ≡ probabilities_of d e m sequence
  by-columns d e m columns rest q = ap (probabilities_by d e m columns) copied ∙ same-probabilities d e gates m columns rest sequence q (present-below gates sequence good)

-- ---- of two verdicts in a row the first decides, or the second: w is the first, as a call gave it
module _ (x y w : Verdict) (e : w ≡ x) where
  pub stops : (r : Refusal) → w ≡ Err r → Err r ≡ first_of x y
  stops r f = ap (λ (v : Verdict). first_of v y) (sym f ∙ e)

  pub goes_on : (v : Verdict) → w ≡ good → v ≡ y → v ≡ first_of x y
  goes_on v f h = h ∙ ap (λ (v : Verdict). first_of v y) (sym f ∙ e)

-- ---- what good verdicts say

pub within : (d e g n : ℕ) → good ≡ limits_verdict d e g n → Sized d e g × (n ≤ 64)
unfolding limits_verdict limits_of
within d e g n h =
    let a = neither (ltb 16 d) (ltb 16 e || (ltb 8 g || ltb 64 n)) (passed _ _ _ h).0 in
    let b = neither (ltb 16 e) (ltb 8 g || ltb 64 n) a.1 in
    let c = neither (ltb 8 g) (ltb 64 n) b.1 in
    (record { dimension = ltb-false 16 d a.0; effects = ltb-false 16 e b.0; gates = ltb-false 8 g c.0 }, ltb-false 64 n c.1)

-- all that a good sequence has
pub record Fitting (d e : ℕ) (names : List ℕ) (m : List Float) (sequence : List ℕ) : Type 0 where
  pub sized : Sized d e (length names)
  pub short : length sequence ≤ 64
  pub count : length m ≡ model_size d e (length names)
  pub present : present_of (length names) sequence ≡ good

pub fitting : (d e : ℕ) (names : List ℕ) (m : List Float) (sequence : List ℕ) → good ≡ sequence_verdict d e names m sequence → Fitting d e names m sequence
unfolding sequence_verdict given_verdict
fitting d e names m sequence h =
    let a = both-good (limits_verdict d e (length names) (length sequence)) _ h in
    let b = both-good (counted_of (model_size d e (length names)) m) _ a.1 in
    let c = both-good (tested_of (given d e names m)) (present_of (length names) sequence) b.1 in
    let w = within d e (length names) (length sequence) a.0 in
    record { sized = w.0; short = w.1; count = counted _ m b.0; present = sym c.1 }
