-- One record: its gates by columns, and what it gives. Assumes nothing.
use Rattle.likelihood.specs.declared.Unfit.TheVariants.{Refused}
use Rattle.std.proofs.Common.{Ok, Err, is_err}
use Rattle.refusal.specs.Verdicts.{good, Verdict, after}
use Prim.Native.Nat.{ℕ, ◌+◌, ◌*◌, ◌≤◌, ◌<◌}
use mathlib.Core.Path.{◌≡◌, refl, sym, ◌∙◌, ap, ap₂}
use mathlib.Core.Bool.{Bool, true, false≢true}
use mathlib.Core.List.{List, [], ◌++◌, append-nil}
use native.Mathlib.Omega.{arith}
use lib.ListN.{length, get_or, take, drop}
use lib.Seq.{take_at}
use lib.Ieee.{Float}
use Rattle.lists.proofs.Parts.{row_fits}
use Rattle.refusal.specs.declared.Refusal.{Refusal}
use Rattle.card_layout.specs.declared.Header.{Header}
use Rattle.card_parts.specs.Parts.{sequence_of}
use Rattle.model_words.specs.Words.{model_numbers}
use Rattle.gate_set.specs.GateSet.{columns_in, present_of, probabilities_of, probabilities_by}
use Rattle.gate_set.proofs.Columns.{length-columns-in, length-probabilities-by, same-probabilities}
use Rattle.gate_set.proofs.Sequences.{present-below}
use Rattle.likelihood.specs.declared.Diagnostics.{Diagnostics}
use Rattle.lists.proofs.Folding.{fold_stays}
use Rattle.likelihood.proofs.Loops.{weighed}
use Rattle.likelihood.specs.Multinomial.{Likelihood, onward, with_record}
use Rattle.diagnostics.specs.Diagnostics.{counts_of, record_onward}

-- the state and the effects lie within a model
pub vectors-in : (h : Header) (n : ℕ) → model_numbers h ≤ n → h.dimension + h.effects * h.dimension ≤ n
vectors-in h n l = omega arith

module _ (d e gates : ℕ) (m columns : List Float) (sequence : List ℕ) (q : columns ≡ columns_in d e gates m) (p : present_of gates sequence ≡ good) where
  -- the sequence's gates lie among the columns
  pub gates-lie : (k : ℕ) → k < length sequence → get_or sequence k 0 * (d * d) + d * d ≤ length columns
  gates-lie k l = row_fits (get_or sequence k 0) gates (d * d) (length columns) (present-below gates sequence p k l) (omega (arith, ap length q, length-columns-in d e gates m))

  -- what they give, at the front of their row
  pub probabilities-are : (n : ℕ) (row₀ row : List Float) → n ≡ e → row ≡ probabilities_by d e m columns sequence ++ drop e row₀ → take n row ≡ probabilities_of d e m sequence
  probabilities-are n row₀ row h f =
      ap (take n) f ∙ take_at (probabilities_by d e m columns sequence) (drop e row₀) n (length-probabilities-by d e m columns sequence ∙ sym h)
      ∙ same-probabilities d e gates m columns [] sequence (q ∙ sym (append-nil (columns_in d e gates m))) (present-below gates sequence p)

-- nothing follows what has ended
pub onward-ended : (f : Diagnostics → Likelihood) (l : Likelihood) → is_err l ≡ true → l ≡ onward f l
onward-ended f (Ok d) e = absurd (false≢true e)
onward-ended f (Err u) e = refl

-- so that a loop may be left then
pub ended-all : (f : ℕ → Diagnostics → Likelihood) (d : Diagnostics) (i n : ℕ) (l : Likelihood) → i ≤ n → l ≡ weighed f d i → is_err l ≡ true → l ≡ weighed f d n
ended-all f d i n l h e b = sym (fold_stays (λ k. onward (f k)) l (λ k. sym (onward-ended (f k) l b)) n i (Ok d) h (sym e))

module _ (f g : Diagnostics → Likelihood) (e : (d : Diagnostics) → f d ≡ g d) where
  pub onward-same : (l : Likelihood) → onward f l ≡ onward g l
  onward-same (Ok d) = e d
  onward-same (Err u) = refl

-- record r, of this sequence
module _ (log : Float → Float) (b : Bool) (tolerance : Float) (s : List ℕ) (h : Header) (m : List Float) (r : ℕ) (sequence : List ℕ) (e : sequence ≡ sequence_of s h r) where
  by-verdict : (v : Verdict) → v ≡ present_of h.gates sequence → (d : Diagnostics)
      → after v (λ x. Err (Refused x)) (with_record log b tolerance (counts_of s h r) (probabilities_of h.dimension h.effects m sequence) d) ≡ record_onward log b tolerance s h m r d
  unfolding record_onward
  by-verdict v c d = rw (c, e)

  -- a gate is absent
  pub absent : (x : Refusal) → Err x ≡ present_of h.gates sequence → (d : Diagnostics) → Err (Refused x) ≡ record_onward log b tolerance s h m r d
  absent x c d = by-verdict (Err x) c d

  pub present : good ≡ present_of h.gates sequence → (counts : List ℕ) (ps : List Float) → counts ≡ counts_of s h r → ps ≡ probabilities_of h.dimension h.effects m sequence
      → (d : Diagnostics) → with_record log b tolerance counts ps d ≡ record_onward log b tolerance s h m r d
  present c counts ps f g d = ap₂ (λ (counts : List ℕ) (ps : List Float). with_record log b tolerance counts ps d) f g ∙ by-verdict good c d
