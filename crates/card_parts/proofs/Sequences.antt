-- The length of a sequence, and its entries. Assumes nothing.
use Prim.Native.Nat.{ℕ, ◌%◌, ◌<◌}
use mathlib.Core.Path.{◌≡◌}
use mathlib.Core.List.{List}
use native.Mathlib.Omega.{arith}
use lib.ListN.{length, get_or}
use Rattle.lists.proofs.Filling.{length-build, get_or-build}
use Rattle.numbers.specs.Word.{word_at}
use Rattle.card_layout.specs.declared.Header.{Header}
use Rattle.card_layout.specs.Fields.{length_of, index_of}
use Rattle.card_places.specs.Places.{record_at, index_at}
use Rattle.card_parts.specs.Parts.{sequence_of}

module _ (s : List ℕ) (h : Header) (r : ℕ) where
  pub length_sequence : length (sequence_of s h r) ≡ length_of (word_at s (record_at h r))
  unfolding sequence_of
  length_sequence = length-build _ _

  pub gate_sequence : (k : ℕ) → k < length (sequence_of s h r) → get_or (sequence_of s h r) k 0 ≡ index_of (word_at s (index_at h r k)) (k % 16)
  unfolding sequence_of
  gate_sequence k l = get_or-build 0 (length_of (word_at s (record_at h r))) k (λ k. index_of (word_at s (index_at h r k)) (k % 16)) (omega (arith, length_sequence))

  -- every gate index is below 16
  pub gate-small : (k : ℕ) → k < length (sequence_of s h r) → get_or (sequence_of s h r) k 0 < 16
  gate-small k l = omega (arith, gate_sequence k l)
