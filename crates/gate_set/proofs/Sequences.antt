-- Sequences of gates, tested one by one. Assumes nothing.
use Rattle.std.proofs.Common.{Err}
use Rattle.refusal.specs.Verdicts.{good, Verdict, first_of}
use Prim.Native.Nat.{ℕ, ◌+◌, ◌≤◌, ◌<◌}
use mathlib.Core.Path.{◌≡◌, refl, sym}
use mathlib.Core.List.{List}
use native.Mathlib.Omega.{arith}
use borrow.Author.Tests.{lt-ltb, le-ltb, ltb-true}
use lib.Dec.{ltb}
use lib.ListN.{length, get_or}
use Rattle.lists.specs.Fold.{fold}
use Rattle.lists.proofs.Choices.{yes, no}
use Rattle.lists.proofs.Folding.{fold_more, fold_end, fold_stays}
use Rattle.refusal.specs.declared.Refusal.TheVariants.{UnknownGate}
use Rattle.refusal.proofs.Verdicts.{held, each-good}
use Rattle.gate_set.specs.GateSet.{present_gate, present_of}

module _ (gates : ℕ) (sequence : List ℕ) where
  -- one more test
  abbrev pub tested : ℕ → Verdict → Verdict
  tested k v = first_of v (present_gate gates (get_or sequence k 0))

  pub gate-present : (k : ℕ) → get_or sequence k 0 < gates → good ≡ fold k tested good → good ≡ fold (k + 1) tested good
  gate-present k h e = fold_more tested k good good good e (yes _ (lt-ltb _ _ h))

  pub gate-missing : (k : ℕ) → k < length sequence → gates ≤ get_or sequence k 0 → good ≡ fold k tested good → Err (UnknownGate (get_or sequence k 0)) ≡ present_of gates sequence
  unfolding present_of
  gate-missing k l h e =
      let r : Verdict = Err (UnknownGate (get_or sequence k 0)) in
      sym (fold_stays tested r (λ i. refl) (length sequence) (k + 1) good (omega arith) (sym (fold_more tested k good good r e (no _ (le-ltb _ _ h) refl))))

  pub all-present : (k : ℕ) → k ≡ length sequence → good ≡ fold k tested good → good ≡ present_of gates sequence
  unfolding present_of
  all-present k h e = fold_end tested k (length sequence) good good h e

  -- a sequence that is not refused has gates that are there
  pub present-below : present_of gates sequence ≡ good → (k : ℕ) → k < length sequence → get_or sequence k 0 < gates
  unfolding present_of
  present-below e k l = ltb-true _ _ (held (ltb (get_or sequence k 0) gates) _ (sym (each-good (length sequence) (λ k. present_gate gates (get_or sequence k 0)) e k l)))
