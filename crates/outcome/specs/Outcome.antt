-- The outcome of a call: its answer, and the words that it writes into the result from word 0. A sheet and a refusal are document 01's terms.
use Rattle.std.specs.Prelude.{Result, Err, Ok, ℕ, ◌≡◌, ◌≤◌, Bool, true, false, cond, ◌&&◌, List, [], leb, length, Float}
use Rattle.std.specs.Fn.{Once}
use denote.Ref.{MutBor}
use Rattle.lists.specs.Build.{over}
use Rattle.numbers.specs.Slice.{blank}
use Rattle.refusal.specs.declared.Refusal.{Refusal}
use Rattle.refusal.specs.declared.Refusal.TheVariants.{ShortBuffer}
use Rattle.refusal.specs.Verdicts.{Verdict}
use Rattle.outcome.specs.declared.Answer.{Answer}

-- what a call answers
abbrev pub Answered : Type 0
Answered = Result Answer Refusal

pub record Outcome : Type 0 where
  pub answer : Answered
  pub words : List ℕ

-- a refusal writes no word
abbrev pub refused : Refusal → Outcome
refused r = record { answer = Err r; words = [] }

-- a good verdict lets the answer and its words be shown
abbrev pub shown : Verdict → Answer → List ℕ → Outcome
shown (Ok _) a words = record { answer = Ok a; words = words }
shown (Err r) a words = refused r

-- a call returned r and changed the result's words from l to m, as the outcome o says: its words at the front, and no other word changed
pub record Gives (o : Outcome) (l m : List ℕ) (r : Answered) : Type 0 where
  pub answer : r ≡ o.answer
  pub written : m ≡ over o.words l

-- the result has 4,096 words and the work slice 8,192
unfoldable pub roomy : List ℕ → List Float → Bool
roomy result work = leb 4096 (length result) && leb 8192 (length work)

-- refusal 16 comes before all else
unfoldable pub in_room : List ℕ → List Float → Outcome → Outcome
in_room result work o = cond (roomy result work) o (refused ShortBuffer)

-- What a call of an entry point returns and leaves behind, whatever it is lent: the outcome in its answer and in the result's words, and the whole work
-- slice +0.
pub record Call (o : Outcome) (result₀ result₁ : List ℕ) (work₀ work₁ : List Float) (r : Answered) : Type 0 where
  pub gives : Gives (in_room result₀ work₀ o) result₀ result₁ r
  pub blanked : work₁ ≡ blank work₀

-- An entry point that is passed on: it may be called at slices that are long enough, and such a call comes to the outcome o.
abbrev pub Lent : Type 0
Lent = MutBor (List ℕ) × (MutBor (List Float) × Unit {0})

abbrev pub MayRun : {F : Type 0} → Once F Lent (Answered × Lent) → F → Type 0
MayRun g f = (p : MutBor (List ℕ)) (q : MutBor (List Float)) → 4096 ≤ length p.now → 8192 ≤ length q.now → g.pre f (p, (q, tt))

pub record Runs {F : Type 0} (g : Once F Lent (Answered × Lent)) (f : F) (o : Outcome) : Type 0 where
  pub gives : (p p' : MutBor (List ℕ)) (q q' : MutBor (List Float)) (r : Answered) → 4096 ≤ length p.now → 8192 ≤ length q.now
      → g.post f (p, (q, tt)) (r, (p', (q', tt))) → Gives o p.now p'.now r

-- what holds or not, as a sheet shows it
abbrev pub bit_of : Bool → ℕ
bit_of true = 1
bit_of false = 0
