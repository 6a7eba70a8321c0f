-- A record's sequence and counts, loaded number by number. Assumes nothing.
use Prim.Native.Nat.{ℕ}
use mathlib.Core.Path.{◌≡◌, ◌∙◌, ap}
use mathlib.Core.List.{List}
use lib.ListN.{length, get_or}
use Rattle.lists.specs.Build.{build}
use Rattle.lists.proofs.Filling.{Filled, fill-all, build-all}
use Rattle.card_layout.specs.declared.Header.{Header}
use Rattle.card_parts.specs.Parts.{sequence_of, count_in}
use Rattle.diagnostics.specs.Diagnostics.{counts_of}

module _ (s : List ℕ) (h : Header) (r : ℕ) (d out : List ℕ) (k : ℕ) (e : k ≡ length d) where
  pub counts-all : length d ≡ h.effects → Filled (count_in s h r) d k out → out ≡ counts_of s h r
  unfolding counts_of
  counts-all n o = fill-all _ d k out e o ∙ ap (λ (n : ℕ). build n (count_in s h r)) n

  pub sequence-all : length d ≡ length (sequence_of s h r) → Filled (λ j. get_or (sequence_of s h r) j 0) d k out → out ≡ sequence_of s h r
  sequence-all n o = fill-all _ d k out e o ∙ ap (λ (n : ℕ). build n (λ j. get_or (sequence_of s h r) j 0)) n ∙ build-all 0 (sequence_of s h r)
