-- Document 01's table of refusals: the number N of each case, and its values A and B, zero where none is named.
use Rattle.std.specs.Prelude.{ℕ}
use Rattle.numbers.specs.Number.{word}
use Rattle.refusal.specs.declared.Reason.{Reason}
use Rattle.refusal.specs.declared.Reason.TheVariants.{Controls, NoRecords, NoCoordinates, RepeatedCoordinate, GradientNotFinite, Name, Other}
use Rattle.refusal.specs.declared.Refusal.{Refusal}
use Rattle.refusal.specs.declared.Refusal.TheVariants.{InvalidQubits, Shape, NonFinite, InvalidNormalization, InvalidTolerance, Operator, UnknownGate, InvalidProbabilities, CountOverflow, SingularGaugeTransform, SingularProcessDesign, EigensolverDidNotConverge, InvalidGstOptimization, InvalidGstParameter, InvalidCard, ShortBuffer}

-- N
abbrev pub code_of : Refusal → ℕ
code_of InvalidQubits = 1
code_of (Shape expected actual) = 2
code_of NonFinite = 3
code_of (InvalidNormalization x) = 4
code_of InvalidTolerance = 5
code_of Operator = 6
code_of (UnknownGate g) = 7
code_of InvalidProbabilities = 8
code_of CountOverflow = 9
code_of SingularGaugeTransform = 10
code_of SingularProcessDesign = 11
code_of EigensolverDidNotConverge = 12
code_of (InvalidGstOptimization reason) = 13
code_of (InvalidGstParameter place) = 14
code_of (InvalidCard place) = 15
code_of ShortBuffer = 16

-- A of refusal 13
abbrev pub reason_number : Reason → ℕ
reason_number Controls = 1
reason_number NoRecords = 2
reason_number NoCoordinates = 3
reason_number RepeatedCoordinate = 4
reason_number GradientNotFinite = 5
reason_number Name = 6
reason_number (Other n) = n

-- A
abbrev pub value_a : Refusal → ℕ
value_a InvalidQubits = 0
value_a (Shape expected actual) = expected
value_a NonFinite = 0
value_a (InvalidNormalization x) = word x
value_a InvalidTolerance = 0
value_a Operator = 0
value_a (UnknownGate g) = g
value_a InvalidProbabilities = 0
value_a CountOverflow = 0
value_a SingularGaugeTransform = 0
value_a SingularProcessDesign = 0
value_a EigensolverDidNotConverge = 0
value_a (InvalidGstOptimization reason) = reason_number reason
value_a (InvalidGstParameter place) = place
value_a (InvalidCard place) = place
value_a ShortBuffer = 0

-- B
abbrev pub value_b : Refusal → ℕ
value_b InvalidQubits = 0
value_b (Shape expected actual) = actual
value_b NonFinite = 0
value_b (InvalidNormalization x) = 0
value_b InvalidTolerance = 0
value_b Operator = 0
value_b (UnknownGate g) = 0
value_b InvalidProbabilities = 0
value_b CountOverflow = 0
value_b SingularGaugeTransform = 0
value_b SingularProcessDesign = 0
value_b EigensolverDidNotConverge = 0
value_b (InvalidGstOptimization reason) = 0
value_b (InvalidGstParameter place) = 0
value_b (InvalidCard place) = 0
value_b ShortBuffer = 0
