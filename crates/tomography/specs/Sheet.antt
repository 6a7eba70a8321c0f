-- The sheet of a card, by its kind (document 01's table), and what a call of the entry point promises.
use Rattle.std.specs.Prelude.{Err, Ok, ℕ, ◌≡◌, Bool, true, cond, List, eqb, Float}
use Rattle.card_layout.specs.declared.Header.{Header}
use Rattle.card.specs.Reading.{Reading, read_of}
use Rattle.descent.specs.Claim.{distinct}
use Rattle.parameters.specs.Parameters.{places_of}
use Rattle.outcome.specs.declared.Answer.TheVariants.{Fit}
use Rattle.outcome.specs.Outcome.{Answered, Outcome, refused, Call}
use Rattle.gst_sheets.specs.Sheets.{diagnostics_sheet}
use Rattle.fit_sheets.specs.Sheets.{fit_sheet}
use Rattle.fit_sheets.specs.Buyer.{Buyer}
use Rattle.sheets.specs.Sheets.{density_sheet, projected_sheet, process_sheet, physical_sheet, gauge_sheet}

-- the sheet of a card that the reader accepts: of the kinds that have a model, 5 to 7, and of all
unfoldable pub model_sheet : List ℕ → Header → Outcome
model_sheet s h =
    cond (eqb h.kind 5) (fit_sheet s h)
    (cond (eqb h.kind 6) (gauge_sheet s h)
    (diagnostics_sheet s h))

unfoldable pub kind_sheet : List ℕ → Header → Outcome
kind_sheet s h =
    cond (eqb h.kind 1) (density_sheet s h.qubits)
    (cond (eqb h.kind 2) (projected_sheet s h.dimension)
    (cond (eqb h.kind 3) (process_sheet s h.qubits)
    (cond (eqb h.kind 4) (physical_sheet s h.qubits)
    (model_sheet s h))))

-- the reader's refusals come first
abbrev pub read_sheet : List ℕ → Reading → Outcome
read_sheet s (Err r) = refused r
read_sheet s (Ok h) = kind_sheet s h

unfoldable pub sheet_of : List ℕ → Outcome
sheet_of s = read_sheet s (read_of s)

-- What a call returns and leaves behind, whatever it is lent.
pub record Sheet (card result₀ result₁ : List ℕ) (work₀ work₁ : List Float) (r : Answered) : Type 0 where
  pub call : Call (sheet_of card) result₀ result₁ work₀ work₁ r
  -- the buyer's statement, of every fit whose coordinates name different entries
  pub fit : (h : Header) → read_of card ≡ Ok h → h.kind ≡ 5 → distinct (places_of card h) ≡ true
      → (R S E : ℕ) (v : Bool) (M : ℕ) → r ≡ Ok (Fit R S E v M) → Buyer card h R S E v result₁
