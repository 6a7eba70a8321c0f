-- Every row reads as it says, by computation. Assumes nothing.
use mathlib.Core.Path.{◌≡◌, refl}
use mathlib.Core.List.{map}
use Rattle.lists.specs.Fold.{fold}
use Rattle.numbers.specs.Word.{word_at}
use Rattle.card_layout.specs.Limits.{unknown, limits_of}
use Rattle.card_layout.specs.Rules.{past, no_matrix, word0_breaks, qubits_break, sequence_breaks, indices_break, coordinate_breaks}
use Rattle.card_layout.specs.Layout.{times, model_roles, record_roles, after_word0, layout, breaks, faulty}
use Rattle.card.specs.Reading.{header, examined, word_at_fault, size_at_fault, at_fault, lowest, fault_of, length_read, read_of}
use Rattle.card_examples.specs.Rows.{Row, card, rows}

pub worked : map (λ (r : Row). read_of (card r.words r.cut)) rows ≡ map (λ (r : Row). r.reading) rows
unfolding fold word_at unknown limits_of past no_matrix word0_breaks qubits_break sequence_breaks indices_break coordinate_breaks times model_roles record_roles after_word0 layout breaks faulty header examined word_at_fault size_at_fault at_fault lowest fault_of length_read read_of card
worked = refl
