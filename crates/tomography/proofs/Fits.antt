-- What the entry point's promise says of fits. Assumes nothing.
use Rattle.std.proofs.Common.{Ok, Err}
use Prim.Native.Nat.{ℕ, ◌<◌}
use mathlib.Core.Path.{◌≡◌, sym, ap, subst, ◌∙◌}
use mathlib.Core.Bool.{Bool, true, false, cond}
use mathlib.Core.List.{List}
use native.Mathlib.Omega.{arith}
use borrow.Author.Tests.{eq-eqb, ne_eqb}
use lib.ListN.{get_or}
use lib.Ieee.{Float}
use Rattle.lists.proofs.Choices.{yes, no}
use Rattle.refusal.specs.declared.Refusal.TheVariants.{ShortBuffer}
use Rattle.card_layout.specs.declared.Header.{Header}
use Rattle.card.specs.Reading.{read_of}
use Rattle.outcome.specs.declared.Answer.{Answer}
use Rattle.outcome.specs.declared.Answer.TheVariants.{Fit}
use Rattle.outcome.specs.Outcome.{Answered, Outcome, refused, Gives, roomy, in_room, Call}
use Rattle.fit_sheets.specs.Sheets.{fit_sheet}
use Rattle.fit_sheets.proofs.Buyer.{buyer}
use Rattle.tomography.specs.Sheet.{model_sheet, kind_sheet, read_sheet, sheet_of, Sheet}

-- the sheet of an accepted card of kind 5
fit-kind : (s : List ℕ) (h : Header) → h.kind ≡ 5 → fit_sheet s h ≡ kind_sheet s h
unfolding kind_sheet model_sheet
fit-kind s h k =
    no _ (ne_eqb h.kind 1 (λ e. omega arith))
    (no _ (ne_eqb h.kind 2 (λ e. omega arith))
    (no _ (ne_eqb h.kind 3 (λ e. omega arith)) (no _ (ne_eqb h.kind 4 (λ e. omega arith)) (yes _ (eq-eqb h.kind 5 k)))))

read_sheet-fit : (s : List ℕ) (h : Header) → read_of s ≡ Ok h → h.kind ≡ 5 → sheet_of s ≡ fit_sheet s h
unfolding sheet_of
read_sheet-fit s h a k = ap (read_sheet s) a ∙ sym (fit-kind s h k)

-- a fit was shown, so there was room
shown-in : (b : Bool) (o : Outcome) {l m : List ℕ} {a : Answer} → Gives (cond b o (refused ShortBuffer)) l m (Ok a) → Gives o l m (Ok a)
shown-in true o g = g
shown-in false o {a = a} g = let e : ◌≡◌ {A = Answered} (Ok a) (Err ShortBuffer) = g.answer in cc

module _ {card result₀ result₁ : List ℕ} {work₀ work₁ : List Float} {r : Answered} (bytes : (i : ℕ) → get_or card i 0 < 256) where
  -- the promise of a call, with the buyer's statement
  pub promised : Call (sheet_of card) result₀ result₁ work₀ work₁ r → Sheet card result₀ result₁ work₀ work₁ r
  unfolding in_room
  promised c =
      record {
        call = c;
        fit = λ h a k d R S E v M e.
            buyer card h bytes d
            (subst (λ (o : Outcome). Gives o result₀ result₁ (Ok (Fit R S E v M))) (read_sheet-fit card h a k)
            (shown-in (roomy result₀ work₀) (sheet_of card) (subst (λ (x : Answered). Gives (in_room result₀ work₀ (sheet_of card)) result₀ result₁ x) e c.gives)));
      }
