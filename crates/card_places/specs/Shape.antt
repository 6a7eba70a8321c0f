-- The shape of a card: what those that read its parts ask.
use Rattle.std.specs.Prelude.{ℕ, ◌*◌, false, List, ◌≡◌, length}
use Rattle.card_layout.specs.declared.Header.{Header}
use Rattle.card_layout.specs.Limits.{Limited}
use Rattle.card_layout.specs.Rules.{word0_breaks, qubits_break}
use Rattle.card_places.specs.Places.{wanted_words}

-- the header keeps the rule of word 0 and n its limit, and the card has exactly the words of the layout. `limits` follows from the two before it
-- (`shaped` of proofs/Within.antt): it stands here for the arithmetic of those that are given a Shaped
pub record Shaped (s : List ℕ) (h : Header) : Type 0 where
  pub word0 : word0_breaks h ≡ false
  pub qubits : qubits_break h ≡ false
  pub limits : Limited h
  pub length : length s ≡ 8 * wanted_words h
