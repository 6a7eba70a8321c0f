-- What the C interface promises: the outcome of an entry point, with its answer in words. A slice of fewer than 5 answer words is refusal 16.
use Rattle.std.specs.Prelude.{Ok, ℕ, min, ◌≡◌, ◌≤◌, ◌<◌, Bool, true, cond, List, ◌++◌, leb, length, drop, Float}
use Rattle.std.specs.Fn.{Once}
use denote.Ref.{MutBor}
use Rattle.lists.specs.Build.{build, over}
use Rattle.numbers.specs.Slice.{at, blank}
use Rattle.refusal.specs.declared.Refusal.TheVariants.{ShortBuffer}
use Rattle.card_layout.specs.declared.Header.{Header}
use Rattle.card.specs.Reading.{read_of}
use Rattle.outcome.specs.declared.Answer.TheVariants as answer
use Rattle.outcome.specs.Outcome.{Answered, Lent, Outcome, refused, in_room}
use Rattle.answer_words.specs.Words.{answer_words, answer_code, reading_words, reading_code}
use Rattle.descent.specs.Claim.{distinct}
use Rattle.parameters.specs.Parameters.{places_of}
use Rattle.fit_sheets.specs.Buyer.{Buyer}
use Rattle.tomography.specs.Sheet.{sheet_of}

-- there is room for an answer
abbrev pub answerable : List ℕ → Bool
answerable answer = leb 5 (length answer)

-- the outcome o of an entry point, 16 before it where there is no room
unfoldable pub exported_of : Outcome → List ℕ → List Float → List ℕ → Outcome
exported_of o result work answer = cond (answerable answer) (in_room result work o) (refused ShortBuffer)

-- a call that is passed on may be made at any slices
abbrev pub AnyCall : {F : Type 0} → Once F Lent (Answered × Lent) → F → Type 0
AnyCall g f = (p : MutBor (List ℕ)) (q : MutBor (List Float)) → g.pre f (p, (q, tt))

-- such a call was made: what it answered, and what it left in the two slices
pub record Made {F : Type 0} (g : Once F Lent (Answered × Lent)) (f : F) (result₀ result₁ : List ℕ) (work₀ work₁ : List Float) (a : Answered) : Type 0 where
  pub lent : MutBor (List ℕ)
  pub left : MutBor (List ℕ)
  pub work_lent : MutBor (List Float)
  pub work_left : MutBor (List Float)
  pub shows : (lent.now ≡ result₀) × (left.now ≡ result₁) × (work_lent.now ≡ work₀) × (work_left.now ≡ work₁)
  pub met : g.post f (lent, (work_lent, tt)) (a, (left, (work_left, tt)))

-- it was made where there is room for an answer, and its answer is told; without room 16 is returned, and the work slice is cleared
pub record Told {F : Type 0} (g : Once F Lent (Answered × Lent)) (f : F) (result₀ result₁ : List ℕ) (work₀ work₁ : List Float) (answer₀ answer₁ : List ℕ) (r : ℕ) : Type 0 where
  pub short : length answer₀ < 5 → (r ≡ 16) × (result₁ ≡ result₀) × (answer₁ ≡ answer₀) × (work₁ ≡ blank work₀)
  pub made : 5 ≤ length answer₀ → (a : Answered) × Made g f result₀ result₁ work₀ work₁ a × (r ≡ answer_code a) × (answer₁ ≡ over (answer_words a) answer₀)

-- every word of each slice, and what is returned
pub record Exported (o : Outcome) (result₀ result₁ : List ℕ) (work₀ work₁ : List Float) (answer₀ answer₁ : List ℕ) (r : ℕ) : Type 0 where
  pub code : r ≡ answer_code (exported_of o result₀ work₀ answer₀).answer
  pub answer : answer₁ ≡ cond (answerable answer₀) (over (answer_words (exported_of o result₀ work₀ answer₀).answer) answer₀) answer₀
  pub result : result₁ ≡ over (exported_of o result₀ work₀ answer₀).words result₀
  pub work : work₁ ≡ blank work₀

-- the sheet of a card, with the buyer's statement of every fit whose coordinates name different entries
pub record SheetExported (card result₀ result₁ : List ℕ) (work₀ work₁ : List Float) (answer₀ answer₁ : List ℕ) (r : ℕ) : Type 0 where
  pub exported : Exported (sheet_of card) result₀ result₁ work₀ work₁ answer₀ answer₁ r
  pub fit : (h : Header) → read_of card ≡ Ok h → h.kind ≡ 5 → distinct (places_of card h) ≡ true
      → (R S E : ℕ) (v : Bool) (M : ℕ)
      → (exported_of (sheet_of card) result₀ work₀ answer₀).answer ≡ Ok (answer.Fit R S E v M)
      → Buyer card h R S E v result₁

-- the reading of a card
pub record ReadExported (card answer₀ answer₁ : List ℕ) (r : ℕ) : Type 0 where
  pub code : r ≡ cond (answerable answer₀) (reading_code (read_of card)) 16
  pub answer : answer₁ ≡ cond (answerable answer₀) (over (reading_words (read_of card)) answer₀) answer₀

-- f of each number, as many as both slices have: the count is returned, and no other number of the second slice changes
pub record Mapped (f : Float → Float) (xs out₀ out₁ : List Float) (r : ℕ) : Type 0 where
  pub count : r ≡ min (length xs) (length out₀)
  pub numbers : out₁ ≡ build r (λ i. f (at xs i)) ++ drop r out₀
