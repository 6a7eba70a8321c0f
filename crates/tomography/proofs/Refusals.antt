-- What the promise says of refusals: the sheet of a card is sound, so that one writes no word of the result, and 16 is given only where a slice is too short.
-- Assumes nothing.
use Rattle.std.proofs.Common.{Err, None, Ok, Some}
use Prim.Native.Nat.{ℕ, ◌*◌, ◌^◌}
use mathlib.Core.Path.{◌≡◌, refl}
use mathlib.Core.Bool.{Bool, true, false, cond}
use mathlib.Core.List.{List}
use borrow.Author.Tests.{eqb-false}
use lib.Dec.{eqb}
use lib.Ieee.{Float}
use Rattle.numbers.specs.Word.{words_in, word_at}
use Rattle.numbers.specs.Slice.{number_at, numbers_at}
use Rattle.refusal.specs.declared.Refusal.{Refusal}
use Rattle.refusal.specs.declared.Refusal.TheVariants.{InvalidQubits, Shape, ShortBuffer}
use Rattle.refusal.specs.Values.{code_of}
use Rattle.card_layout.specs.declared.Header.{Header}
use Rattle.card_layout.specs.Rules.{qubits_break}
use Rattle.card_places.specs.Places.{wanted_words}
use Rattle.card_faults.specs.Walk.{Fault}
use Rattle.card.specs.Reading.{Reading, header, fault_of, length_read, after_fault, read_of}
use Rattle.outcome.specs.Outcome.{roomy}
use Rattle.outcome.proofs.Refusals as outcome
use Rattle.outcome.proofs.Refusals.{Sound, other, either}
use Rattle.gst_sheets.proofs.Refusals.{diagnostics-sound}
use Rattle.fit_sheets.proofs.Refusals.{fit-sheet-sound}
use Rattle.sheets.proofs.Refusals.{density-sound, projected-sound, process-sound, physical-sound, gauge-sound}
use Rattle.tomography.specs.Sheet.{model_sheet, kind_sheet, read_sheet, sheet_of, Sheet}

-- none of the reader's refusals is 16
abbrev Reads : Reading → Type 0
Reads (Ok h) = Unit {0}
Reads (Err r) = code_of r ≡ 16 → ⊥

reads : (s : List ℕ) → Reads (read_of s)
unfolding read_of length_read
reads s = go (fault_of s) (qubits_break (header s)) (eqb (wanted_words (header s)) (words_in s))
  where
    go : (f : Fault) (a b : Bool)
        → Reads (after_fault f (cond a (Err InvalidQubits) (cond b (Ok (header s)) (Err (Shape (wanted_words (header s)) (words_in s))))))
    go (Some p) a b = eqb-false 15 16 refl
    go None true b = eqb-false 1 16 refl
    go None false true = tt
    go None false false = eqb-false 2 16 refl

models : (s : List ℕ) (h : Header) → Sound (model_sheet s h)
unfolding model_sheet
models s h = either (eqb h.kind 5) (fit-sheet-sound s h) (either (eqb h.kind 6) (gauge-sound s h) (diagnostics-sound s h))

kinds : (s : List ℕ) (h : Header) → Sound (kind_sheet s h)
unfolding kind_sheet
kinds s h =
    either (eqb h.kind 1) (density-sound s h.qubits)
    (either (eqb h.kind 2) (projected-sound s h.dimension)
    (either (eqb h.kind 3) (process-sound s (4 ^ h.qubits))
    (either (eqb h.kind 4) (physical-sound h.qubits (number_at s 1) (word_at s 2) (numbers_at s 3 (4 ^ h.qubits * 4 ^ h.qubits)))
    (models s h))))

after-reading : (s : List ℕ) (r : Reading) → Reads r → Sound (read_sheet s r)
after-reading s (Ok h) f = kinds s h
after-reading s (Err r) f = other r f

pub sheet-sound : (s : List ℕ) → Sound (sheet_of s)
unfolding sheet_of
sheet-sound s = after-reading s (read_of s) (reads s)

-- ---- what a caller of the entry point may rely on

module _ (card : List ℕ) {result₀ result₁ : List ℕ} {work₀ work₁ : List Float} where
  -- a refusal writes no word of the result
  pub refusal-writes-nothing : {r : Refusal} → Sheet card result₀ result₁ work₀ work₁ (Err r) → result₁ ≡ result₀
  refusal-writes-nothing s = outcome.refusal-writes-nothing (sheet-sound card) s.call

  -- 16 only where a slice is too short
  pub short-case : Sheet card result₀ result₁ work₀ work₁ (Err ShortBuffer) → roomy result₀ work₀ ≡ false
  short-case s = outcome.short-case (sheet-sound card) s.call
