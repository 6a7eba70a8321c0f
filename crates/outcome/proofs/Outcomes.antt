-- Outcomes carried from a call to its caller. Assumes nothing.
use Rattle.std.proofs.Common.{Ok, Err}
use Rattle.std.specs.Result.{IsErrAnd}
use Rattle.std.proofs.lemmas.Result.{err_from_is_err_and}
use Rattle.refusal.specs.Verdicts.{good, Verdict, after}
use Prim.Native.Nat.{ℕ, ◌≤◌}
use mathlib.Core.Bool.{true, false}
use mathlib.Core.Path.{◌≡◌, refl, sym, ap, subst, ◌∙◌}
use mathlib.Core.List.{List, ◌++◌}
use native.Mathlib.Omega.{arith}
use borrow.Author.Tests.{leb-true}
use lib.Dec.{leb}
use lib.ListN.{length, drop}
use lib.Ieee.{Float}
use Rattle.lists.specs.Build.{build}
use Rattle.lists.proofs.Choices.{yes, no}
use Rattle.booleans.proofs.Joined.{and_both}
use Rattle.numbers.specs.Number.{zero_f}
use Rattle.numbers.specs.Slice.{words_of, blank}
use Rattle.numbers.proofs.Slices.{length-words, words-front}
use Rattle.refusal.specs.declared.Refusal.{Refusal}
use Rattle.refusal.specs.declared.Refusal.TheVariants.{ShortBuffer}
use Rattle.outcome.specs.declared.Answer.{Answer}
use Rattle.outcome.specs.Outcome.{Answered, Outcome, refused, shown, Gives, roomy, in_room}

-- a refusal leaves the result as it was
pub stays : {o : Outcome} {r : Refusal} (l : List ℕ) → refused r ≡ o → Gives o l l (Err r)
stays {r = r} l e = subst (λ (o : Outcome). Gives o l l (Err r)) e (record { answer = refl; written = refl })

pub same_outcome : {o p : Outcome} {l m : List ℕ} {r : Answered} → o ≡ p → Gives o l m r → Gives p l m r
same_outcome {l = l} {m = m} {r = r} e g = subst (λ (o : Outcome). Gives o l m r) e g

-- what a `?` returns
pub returned : {o : Outcome} {r : Refusal} {a : Answered} (l : List ℕ) → IsErrAnd a (λ q. q ≡ r) → refused r ≡ o → Gives o l l a
returned {a = a} l i e = let q = err_from_is_err_and a i in rw (q.1, q.2) (stays l e)

pub same_answer : {o : Outcome} {l m : List ℕ} {r q : Answered} → r ≡ q → Gives o l m q → Gives o l m r
same_answer {o = o} {l = l} {m = m} e g = subst (λ (a : Answered). Gives o l m a) (sym e) g

-- ---- a test's verdict v, as the call w gave it: it refuses, or lets o follow

module _ {v w : Verdict} (o : Outcome) (e : w ≡ v) where
  pub refused-by : {r : Refusal} → w ≡ Err r → refused r ≡ after v refused o
  refused-by f = ap (λ (x : Verdict). after x refused o) (sym f ∙ e)

  pub followed : w ≡ good → o ≡ after v refused o
  followed f = ap (λ (x : Verdict). after x refused o) (sym f ∙ e)

-- ---- a verdict, as a call gave it

module _ (v : Verdict) (a : Answer) (words : List ℕ) where
  pub not-shown : (w : Verdict) (r : Refusal) → w ≡ v → w ≡ Err r → refused r ≡ shown v a words
  not-shown w r e f = ap (λ (x : Verdict). shown x a words) (sym f ∙ e)

  pub is-shown : (w : Verdict) (l m : List ℕ) → w ≡ v → w ≡ good → m ≡ words ++ drop (length words) l → Gives (shown v a words) l m (Ok a)
  is-shown w l m e f p = same_outcome (ap (λ (x : Verdict). shown x a words) (sym f ∙ e)) (record { answer = refl; written = p })

-- the numbers stand at the front of the work slice, and their words went into the result
pub emitted : (numbers rest work : List Float) (n count : ℕ) (l m : List ℕ) → length numbers ≡ n → count ≡ n → work ≡ numbers ++ rest → m ≡ words_of count work ++ drop count l
    → m ≡ words_of n numbers ++ drop (length (words_of n numbers)) l
emitted numbers rest work n count l m h k w p =
    p
    ∙ rw (k, w, words-front n numbers rest (omega arith))
    (sym (ap (λ (j : ℕ). words_of n numbers ++ drop j l) (length-words n numbers)))

-- ---- room

module _ (r : List ℕ) (w : List Float) where
  pub room_for : roomy r w ≡ true → (4096 ≤ length r) × (8192 ≤ length w)
  unfolding roomy
  room_for e =
      let b = and_both (leb 4096 (length r)) (leb 8192 (length w)) e in
      (leb-true 4096 (length r) b.0, leb-true 8192 (length w) b.1)

  -- too little room, and enough
  pub crowded : (o : Outcome) → roomy r w ≡ false → refused ShortBuffer ≡ in_room r w o
  unfolding in_room
  crowded o e = no o e refl

  pub housed : {o p : Outcome} → roomy r w ≡ true → p ≡ o → p ≡ in_room r w o
  unfolding in_room
  housed {o} e h = h ∙ yes (refused ShortBuffer) e

-- as many zeros, whatever stood there
pub blank-same : (v w : List Float) → length v ≡ length w → blank v ≡ blank w
unfolding blank
blank-same v w e = ap (λ (n : ℕ). build n (λ _. zero_f)) e
