-- The tests of a sequence do not end in refusal 16. Assumes nothing.
use Prim.Native.Nat.{ℕ}
use mathlib.Core.Path.{refl}
use mathlib.Core.Bool.{◌||◌}
use mathlib.Core.List.{List}
use borrow.Author.Tests.{eqb-false}
use lib.Dec.{ltb}
use lib.ListN.{length, get_or}
use lib.Ieee.{Float}
use Rattle.refusal.specs.declared.Refusal.TheVariants.{UnknownGate, InvalidCard}
use Rattle.refusal.proofs.Lower.{Lower, lower-good, lower-refused, lower-either, lower-test, lower-first, lower-each, lower-counted}
use Rattle.card_layout.specs.Limits.{limits_of}
use Rattle.model.proofs.Refusals.{lower-tested}
use Rattle.gate_set.specs.GateSet.{present_of}
use Rattle.sequences.specs.Sequences.{limits_verdict, model_size, given, given_verdict, sequence_verdict}

lower-limits : (d e g n : ℕ) → Lower (limits_verdict d e g n)
unfolding limits_verdict limits_of
lower-limits d e g n = lower-either (ltb 16 d || (ltb 16 e || (ltb 8 g || ltb 64 n))) (lower-refused (InvalidCard 0) (eqb-false 15 16 refl)) lower-good

pub lower-sequence : (d e : ℕ) (names : List ℕ) (m : List Float) (sequence : List ℕ) → Lower (sequence_verdict d e names m sequence)
unfolding sequence_verdict given_verdict present_of
lower-sequence d e names m sequence =
    lower-first (lower-limits d e (length names) (length sequence))
    (lower-first (lower-counted (model_size d e (length names)) m)
    (lower-first (lower-tested (given d e names m)) (lower-each _ _ (λ k. lower-test (ltb (get_or sequence k 0) (length names)) (UnknownGate (get_or sequence k 0)) (eqb-false 7 16 refl)))))
