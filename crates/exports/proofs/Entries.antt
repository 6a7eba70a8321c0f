-- An entry point's outcome, exported with and without room for an answer. Assumes nothing.
use Prim.Native.Nat.{ℕ, ◌≤◌, ◌<◌}
use mathlib.Core.Path.{◌≡◌, refl, ap, ◌∙◌}
use mathlib.Core.Bool.{Bool, true, false}
use mathlib.Core.List.{List}
use borrow.Author.Tests.{lt-leb, le-leb, leb-true, leb-false}
use Rattle.std.proofs.Common.{Err, Ok}
use Rattle.std.specs.Fn.{Once}
use denote.Ref.{MutBor}
use lib.Dec.{leb}
use lib.ListN.{length}
use lib.Ieee.{Float}
use Rattle.lists.specs.Build.{over}
use Rattle.lists.proofs.Choices.{yes, no}
use Rattle.numbers.specs.Slice.{blank}
use Rattle.refusal.specs.declared.Refusal.TheVariants.{ShortBuffer}
use Rattle.outcome.specs.Outcome.{Answered, Lent, Outcome, refused, in_room, Call}
use Rattle.outcome.specs.declared.Answer.TheVariants.{Fit}
use Rattle.card_layout.specs.declared.Header.{Header}
use Rattle.card.specs.Reading.{read_of}
use Rattle.descent.specs.Claim.{distinct}
use Rattle.parameters.specs.Parameters.{places_of}
use Rattle.fit_sheets.specs.Buyer.{Buyer}
use Rattle.tomography.specs.Sheet.{sheet_of, Sheet}
use Rattle.answer_words.specs.Words.{answer_words, answer_code}
use Rattle.exports.specs.Exported.{exported_of, Told, Exported, SheetExported}

module _ (o : Outcome) (result₀ result₁ : List ℕ) (work₀ work₁ : List Float) (answer₀ answer₁ : List ℕ) where
  no_room : length answer₀ < 5 → refused ShortBuffer ≡ exported_of o result₀ work₀ answer₀
  unfolding exported_of
  no_room h = no _ (lt-leb 5 (length answer₀) h) refl

  with-room : 5 ≤ length answer₀ → in_room result₀ work₀ o ≡ exported_of o result₀ work₀ answer₀
  unfolding exported_of
  with-room h = yes _ (le-leb 5 (length answer₀) h)

  pub nothing-told : length answer₀ < 5 → result₁ ≡ result₀ → answer₁ ≡ answer₀ → work₁ ≡ blank work₀ → Exported o result₀ result₁ work₀ work₁ answer₀ answer₁ 16
  nothing-told h p q w =
      let e = no_room h in
      record {
        code = ap (λ (x : Outcome). answer_code x.answer) e;
        answer = no _ (lt-leb 5 (length answer₀) h) q;
        result = p ∙ ap (λ (x : Outcome). over x.words result₀) e;
        work = w;
      }

  pub all_told : (a : Answered) (r : ℕ) → 5 ≤ length answer₀ → Call o result₀ result₁ work₀ work₁ a → (r ≡ answer_code a) × (answer₁ ≡ over (answer_words a) answer₀) → Exported o result₀ result₁ work₀ work₁ answer₀ answer₁ r
  all_told a r h s put =
      let e = with-room h in
      let f = s.gives.answer ∙ ap (λ (x : Outcome). x.answer) e in
      record {
        code = put.0 ∙ ap answer_code f;
        answer = put.1 ∙ ap (λ (x : Answered). over (answer_words x) answer₀) f ∙ yes answer₀ (le-leb 5 (length answer₀) h);
        result = s.gives.written ∙ ap (λ (x : Outcome). over x.words result₀) e;
        work = s.blanked;
      }

-- ---- a call that was passed on

module _ {F : Type 0} {g : Once F Lent (Answered × Lent)} {f : F} where
  -- of the outcome o
  pub exported : (o : Outcome) {result₀ result₁ : List ℕ} {work₀ work₁ : List Float} {answer₀ answer₁ : List ℕ} {r : ℕ}
      → ((p p' : MutBor (List ℕ)) (q q' : MutBor (List Float)) (a : Answered) → g.post f (p, (q, tt)) (a, (p', (q', tt))) → Call o p.now p'.now q.now q'.now a)
      → Told g f result₀ result₁ work₀ work₁ answer₀ answer₁ r → Exported o result₀ result₁ work₀ work₁ answer₀ answer₁ r
  exported o {result₀} {result₁} {work₀} {work₁} {answer₀} {answer₁} {r} calls t = go (leb 5 (length answer₀)) refl
    where
      go : (b : Bool) → leb 5 (length answer₀) ≡ b → Exported o result₀ result₁ work₀ work₁ answer₀ answer₁ r
      go true e =
          let h = leb-true 5 (length answer₀) e in
          let m = t.made h in
          let c : Call o result₀ result₁ work₀ work₁ m.0 =
          rw (← m.1.shows.0, ← m.1.shows.1, ← m.1.shows.2, ← m.1.shows.3) (calls m.1.lent m.1.left m.1.work_lent m.1.work_left m.0 m.1.met) in
          all_told o result₀ result₁ work₀ work₁ answer₀ answer₁ m.0 r h c (m.2, m.3)
      go false e =
          let h = leb-false 5 (length answer₀) e in
          let s = t.short h in
          rw s.0 (nothing-told o result₀ result₁ work₀ work₁ answer₀ answer₁ h s.1 s.2 s.3)

  -- of a sheet, with what is said of fits; none is told where there is no room for an answer
  pub sheet-exported : (card : List ℕ) {result₀ result₁ : List ℕ} {work₀ work₁ : List Float} {answer₀ answer₁ : List ℕ} {r : ℕ}
      → ((p p' : MutBor (List ℕ)) (q q' : MutBor (List Float)) (a : Answered) → g.post f (p, (q, tt)) (a, (p', (q', tt))) → Sheet card p.now p'.now q.now q'.now a)
      → Told g f result₀ result₁ work₀ work₁ answer₀ answer₁ r → SheetExported card result₀ result₁ work₀ work₁ answer₀ answer₁ r
  sheet-exported card {result₀} {result₁} {work₀} {work₁} {answer₀} {answer₁} {r} calls t =
      record {
        exported = exported (sheet_of card) (λ p p' q q' a e. (calls p p' q q' a e).call) t;
        fit = λ k c d q R S E v M e. go (leb 5 (length answer₀)) refl k c d q R S E v M e;
      }
    where
      go : (b : Bool) → leb 5 (length answer₀) ≡ b → (h : Header) → read_of card ≡ Ok h → h.kind ≡ 5 → distinct (places_of card h) ≡ true
          → (R S E : ℕ) (v : Bool) (M : ℕ)
          → (exported_of (sheet_of card) result₀ work₀ answer₀).answer ≡ Ok (Fit R S E v M)
          → Buyer card h R S E v result₁
      go true b k c d q R S E v M e =
          let h = leb-true 5 (length answer₀) b in
          let m = t.made h in
          let s : Sheet card result₀ result₁ work₀ work₁ m.0 =
          rw (← m.1.shows.0, ← m.1.shows.1, ← m.1.shows.2, ← m.1.shows.3) (calls m.1.lent m.1.left m.1.work_lent m.1.work_left m.0 m.1.met) in
          s.fit k c d q R S E v M
          (s.call.gives.answer
          ∙ ap (λ (x : Outcome). x.answer)
          (with-room (sheet_of card) result₀ result₁ work₀ work₁ answer₀ answer₁ h) ∙ e)
      go false b k c d q R S E v M e =
          let none : ◌≡◌ {A = Answered} (Err ShortBuffer) (Ok (Fit R S E v M)) =
          ap (λ (x : Outcome). x.answer) (no_room (sheet_of card) result₀ result₁ work₀ work₁ answer₀ answer₁ (leb-false 5 (length answer₀) b)) ∙ e in
          cc
