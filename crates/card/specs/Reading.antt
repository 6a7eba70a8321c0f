-- What reading a card finds (document 01, "The card" and "Refused sheets"): refusal 15 at the lowest place at fault, then 1, then 2.
use Rattle.std.specs.Prelude.{Result, Err, None, Ok, Some, ℕ, zero, suc, ◌*◌, ◌%◌, List, [], ◌∷◌, Bool, cond, ◌&&◌, ◌||◌, length, get_or, ltb, eqb}
use Rattle.numbers.specs.Word.{word_at, words_in}
use Rattle.refusal.specs.declared.Refusal.{Refusal}
use Rattle.refusal.specs.declared.Refusal.TheVariants.{InvalidQubits, Shape, InvalidCard}
use Rattle.card_layout.specs.declared.Header.{Header}
use Rattle.card_layout.specs.Fields.{header_of}
use Rattle.card_layout.specs.Limits.{most_words}
use Rattle.card_layout.specs.Rules.{qubits_break}
use Rattle.card_layout.specs.Layout.{Role, word0, number, layout, faulty}
use Rattle.card_places.specs.Places.{wanted_words}
use Rattle.card_faults.specs.Walk.{Fault, first_of}

-- what a reader finds: the fields of word 0, or a refusal
abbrev pub Reading : Type 0
Reading = Result Header Refusal

-- the card's word 0
unfoldable pub header : List ℕ → Header
header s = header_of (word_at s 0)

-- the words that are looked at: word 0 only, where n is at fault
unfoldable pub examined : List ℕ → List Role
examined s = cond (qubits_break (header s)) (word0 ∷ []) (layout (header s))

-- at place p a present word of the layout breaks its rule
-- (past the layout `get_or` gives `number`, which has no rule)
unfoldable pub word_at_fault : List ℕ → ℕ → Bool
word_at_fault s p = faulty s p (get_or (examined s) p number)

-- place p is that of an empty card, of one longer than 8,192 words, or of a last word cut short
unfoldable pub size_at_fault : List ℕ → ℕ → Bool
size_at_fault s p =
    (eqb (length s) 0 && eqb p 0)
    || ((ltb (most_words * 8) (length s) && eqb p most_words)
    || (ltb 0 (length s % 8) && eqb p (words_in s)))

unfoldable pub at_fault : List ℕ → ℕ → Bool
at_fault s p = size_at_fault s p || word_at_fault s p

-- the lowest place below n that f holds of
unfoldable pub lowest : ℕ → (ℕ → Bool) → Fault
lowest zero f = None
lowest (suc n) f = first_of (lowest n f) (cond (f n) (Some n) None)

-- the lowest place at fault: none lies above the number of whole words
unfoldable pub fault_of : List ℕ → Fault
fault_of s = lowest (suc (words_in s)) (at_fault s)

-- 1, then 2, then the card is accepted
unfoldable pub length_read : Header → ℕ → Reading
length_read h found =
    cond (qubits_break h) (Err InvalidQubits)
    (cond (eqb (wanted_words h) found) (Ok h)
    (Err (Shape (wanted_words h) found)))

-- 15 first
abbrev pub after_fault : Fault → Reading → Reading
after_fault (Some p) r = Err (InvalidCard p)
after_fault None r = r

-- A refusal of document 02 that stands between 15 and 1 is one more step here
unfoldable pub read_of : List ℕ → Reading
read_of s = after_fault (fault_of s) (length_read (header s) (words_in s))
