-- The library's entries beside the sheets, which document 01 names after the kinds: what each answers and writes.
use Rattle.refusal.specs.Verdicts.{good, Verdict, first_of, after}
use Rattle.std.specs.Prelude.{Err, ℕ, ◌*◌, ◌^◌, cond, ◌||◌, List, [], eqb, leb, ltb, Float}
use Rattle.numbers.specs.Slice.{words_of}
use Rattle.refusal.specs.declared.Refusal.TheVariants.{InvalidQubits, InvalidCard}
use Rattle.matrix.specs.Product.{mat_vec_of}
use Rattle.transfer.specs.Apply.{applied_of, applied_numbers}
use Rattle.choi.specs.Choi.{choi_of, normalized_choi, choi_numbers}
use Rattle.designs.specs.Probes.{probes_of}
use Rattle.designs.specs.Settings.{setting_of}
use Rattle.gate_set.specs.GateSet.{probabilities_of}
use Rattle.sequences.specs.Sequences.{sequence_verdict}
use Rattle.outcome.specs.declared.Answer.TheVariants.{Probes, Setting, Applied, Choi, Probabilities}
use Rattle.outcome.specs.Outcome.{Outcome, shown}

-- refusal 1: no qubit, or more than `most`
unfoldable pub qubits_of : ℕ → ℕ → Verdict
qubits_of most n = cond (eqb n 0 || ltb most n) (Err InvalidQubits) good

-- `product_probe_expectations`: 4^n probes, a row of 4^n expectations for each
unfoldable pub probes_entry : ℕ → Outcome
probes_entry n = shown (qubits_of 3 n) (Probes (4 ^ n)) (words_of (4 ^ n * 4 ^ n) (probes_of n))

-- `LocalPauliPlan::complete`, read by index: the axis of each of the n qubits
unfoldable pub setting_verdict : ℕ → ℕ → Verdict
setting_verdict n index = first_of (qubits_of 3 n) (cond (leb (3 ^ n) index) (Err (InvalidCard index)) good)

unfoldable pub setting_entry : ℕ → ℕ → Outcome
setting_entry n index = shown (setting_verdict n index) (Setting n) (setting_of n index)

-- `apply_expectations`: the transfer matrix is made first, then the input is tested; the 4^n expectations afterwards
unfoldable pub apply_verdict : ℕ → List Float → List Float → Verdict
apply_verdict n values input = first_of (qubits_of 2 n) (applied_of (4 ^ n) values input)

unfoldable pub apply_numbers : ℕ → List Float → List Float → List Float
apply_numbers n values input = after (qubits_of 2 n) (λ _. []) (applied_numbers (4 ^ n) values input)

unfoldable pub apply_entry : ℕ → List Float → List Float → Outcome
apply_entry n values input = shown (apply_verdict n values input) (Applied (4 ^ n)) (words_of (4 ^ n) (mat_vec_of (4 ^ n) values input))

-- `normalized_choi`: the transfer matrix is made first; the parts of the 4^n by 4^n entries
unfoldable pub choi_verdict : ℕ → List Float → Verdict
choi_verdict n values = first_of (qubits_of 2 n) (normalized_choi n values)

unfoldable pub choi_left : ℕ → List Float → List Float
choi_left n values = after (qubits_of 2 n) (λ _. []) (choi_numbers n values)

unfoldable pub choi_entry : ℕ → List Float → Outcome
choi_entry n values = shown (choi_verdict n values) (Choi (4 ^ n)) (words_of (2 * (4 ^ n * 4 ^ n)) (choi_of n values))

-- `probabilities`: the model of a name for each gate and of numbers is made first, then the sequence is tested; the probability of each effect
unfoldable pub probabilities_entry : ℕ → ℕ → List ℕ → List Float → List ℕ → Outcome
probabilities_entry d effects names numbers sequence =
    shown (sequence_verdict d effects names numbers sequence) (Probabilities effects) (words_of effects (probabilities_of d effects numbers sequence))
