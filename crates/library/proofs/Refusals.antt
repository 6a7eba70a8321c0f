-- What a caller may rely on of the library's refusals: one writes no word of the result, and 16 is given only where a slice is too short (the laws of `Sound`
-- in the crate outcome). Assumes nothing.
use Prim.Native.Nat.{ℕ, ◌*◌, ◌^◌}
use mathlib.Core.Path.{refl}
use mathlib.Core.Bool.{◌||◌}
use mathlib.Core.List.{List}
use borrow.Author.Tests.{eqb-false}
use lib.Dec.{eqb, leb, ltb}
use lib.Ieee.{Float}
use Rattle.numbers.specs.Slice.{words_of}
use Rattle.refusal.specs.declared.Refusal.TheVariants.{InvalidQubits, Operator, InvalidCard}
use Rattle.refusal.proofs.Lower.{Lower, lower-good, lower-refused, lower-either, lower-first, lower-finite, lower-numbers}
use Rattle.matrix.specs.Product.{mat_vec_of}
use Rattle.transfer.specs.Apply.{applied_of}
use Rattle.choi.specs.Choi.{choi_of, choi_tested, normalized_choi}
use Rattle.designs.specs.Probes.{probes_of}
use Rattle.designs.specs.Settings.{setting_of}
use Rattle.gate_set.specs.GateSet.{probabilities_of}
use Rattle.sequences.specs.Sequences.{sequence_verdict}
use Rattle.sequences.proofs.Refusals.{lower-sequence}
use Rattle.outcome.specs.declared.Answer.TheVariants.{Probes, Setting, Applied, Choi, Probabilities}
use Rattle.outcome.proofs.Refusals.{Sound, shown-sound}
use Rattle.library.specs.Entries.{qubits_of, setting_verdict, apply_verdict, probes_entry, setting_entry, apply_entry, choi_verdict, choi_entry, probabilities_entry}

lower-qubits : (most n : ℕ) → Lower (qubits_of most n)
unfolding qubits_of
lower-qubits most n = lower-either (eqb n 0 || ltb most n) (lower-refused InvalidQubits (eqb-false 1 16 refl)) lower-good

pub probes-sound : (n : ℕ) → Sound (probes_entry n)
unfolding probes_entry
probes-sound n = shown-sound (qubits_of 3 n) (Probes (4 ^ n)) (words_of (4 ^ n * 4 ^ n) (probes_of n)) (lower-qubits 3 n)

lower-setting : (n index : ℕ) → Lower (setting_verdict n index)
unfolding setting_verdict
lower-setting n index = lower-first (lower-qubits 3 n) (lower-either (leb (3 ^ n) index) (lower-refused (InvalidCard index) (eqb-false 15 16 refl)) lower-good)

pub setting-sound : (n index : ℕ) → Sound (setting_entry n index)
unfolding setting_entry
setting-sound n index = shown-sound (setting_verdict n index) (Setting n) (setting_of n index) (lower-setting n index)

lower-apply : (n : ℕ) (values input : List Float) → Lower (apply_verdict n values input)
unfolding apply_verdict applied_of
lower-apply n values input = lower-first (lower-qubits 2 n) (lower-first (lower-numbers (4 ^ n * 4 ^ n) values) (lower-numbers (4 ^ n) input))

pub apply-sound : (n : ℕ) (values input : List Float) → Sound (apply_entry n values input)
unfolding apply_entry
apply-sound n values input = shown-sound (apply_verdict n values input) (Applied (4 ^ n)) (words_of (4 ^ n) (mat_vec_of (4 ^ n) values input)) (lower-apply n values input)

lower-choi : (n : ℕ) (values : List Float) → Lower (choi_verdict n values)
unfolding choi_verdict normalized_choi choi_tested
lower-choi n values = lower-first (lower-qubits 2 n) (lower-first (lower-numbers (4 ^ n * 4 ^ n) values) (lower-finite Operator (choi_of n values) (eqb-false 6 16 refl)))

pub choi-sound : (n : ℕ) (values : List Float) → Sound (choi_entry n values)
unfolding choi_entry
choi-sound n values = shown-sound (choi_verdict n values) (Choi (4 ^ n)) (words_of (2 * (4 ^ n * 4 ^ n)) (choi_of n values)) (lower-choi n values)

pub probabilities-sound : (d effects : ℕ) (names : List ℕ) (numbers : List Float) (sequence : List ℕ) → Sound (probabilities_entry d effects names numbers sequence)
unfolding probabilities_entry
probabilities-sound d effects names numbers sequence = shown-sound (sequence_verdict d effects names numbers sequence) (Probabilities effects) (words_of effects (probabilities_of d effects numbers sequence)) (lower-sequence d effects names numbers sequence)
