-- What an accepted card of each kind has, as its sheet asks it. Assumes nothing.
use Rattle.std.proofs.Common.{Ok}
use Prim.Native.Nat.{ℕ, ◌+◌, ◌*◌, ◌^◌, ◌≤◌, ◌<◌}
use mathlib.Core.Path.{◌≡◌}
use mathlib.Core.List.{List}
use native.Mathlib.Omega.{arith}
use lib.ListN.{length}
use Rattle.card_layout.specs.declared.Header.{Header}
use Rattle.card_places.specs.Shape.{Shaped}
use Rattle.card_parts.specs.Parts.{Sequence}
use Rattle.card.specs.Reading.{read_of}
use Rattle.card.proofs.Accepted.{accepted}
use Rattle.fit_sheets.specs.Sheets.{FitRequest}
use Rattle.outcome.specs.Outcome.{Answered, Gives}
use Rattle.sheets.specs.Sheets.{physical_sheet}
use Rattle.tomography.specs.Sheet.{kind_sheet}

module _ (s : List ℕ) (h : Header) (e : read_of s ≡ Ok h) where
  pub shape : Shaped s h
  shape = (accepted s h e).shaped

  pub sequences : (r : ℕ) → r < h.records → Sequence s h r
  sequences = (accepted s h e).sequence

  pub density_card : h.kind ≡ 1 → (h.qubits ≤ 3) × ((2 + 4 ^ h.qubits) * 8 ≤ length s)
  density_card k =
      let a = (accepted s h e).kind1 k in
      (a.few, omega (arith, a.words))

  pub projected_card : h.kind ≡ 2 → (1 ≤ h.dimension) × (h.dimension ≤ 16) × ((3 + 2 * (h.dimension * h.dimension)) * 8 ≤ length s)
  projected_card k =
      let a = (accepted s h e).kind2 k in
      (a.some, a.few, omega (arith, a.words))

  pub process_card : h.kind ≡ 3 → (h.qubits ≤ 2) × ((2 + 2 * (4 ^ h.qubits * 4 ^ h.qubits)) * 8 ≤ length s)
  process_card k =
      let a = (accepted s h e).kind3 k in
      (a.few, omega (arith, a.words))

  pub physical_card : h.kind ≡ 4 → (1 ≤ h.qubits) × (h.qubits ≤ 2) × ((3 + 4 ^ h.qubits * 4 ^ h.qubits) * 8 ≤ length s)
  physical_card k =
      let a = (accepted s h e).kind4 k in
      (a.some, a.few, omega (arith, a.words))

  pub fit_card : h.kind ≡ 5 → FitRequest s h
  fit_card k =
      let a = accepted s h e in
      let f = a.kind5 k in
      record { kind = k; iterations = f.iterations; backtracks = f.backtracks }

-- the sheet of kind 4 writes no word, whatever stands in the result
pub physical_shown : (s l : List ℕ) (h : Header) (r : Answered) → h.kind ≡ 4 → ((l : List ℕ) → Gives (physical_sheet s h.qubits) l l r) → Gives (kind_sheet s h) l l r
unfolding kind_sheet
physical_shown s l h r k g = rw k (g l)
