-- What the promise says of refusals: one writes no word of the result, and 16 is given only where a slice is too short. Assumes nothing.
use Rattle.std.proofs.Common.{Err, Ok}
use Prim.Native.Nat.{ℕ}
use mathlib.Core.Path.{◌≡◌, refl, sym, ap, ◌∙◌}
use mathlib.Core.Bool.{Bool, true, false, cond}
use mathlib.Core.List.{List, []}
use lib.Ieee.{Float}
use Rattle.lists.specs.Build.{over}
use Rattle.numbers.specs.Slice.{blank}
use Rattle.refusal.specs.declared.Refusal.{Refusal}
use Rattle.refusal.specs.declared.Refusal.TheVariants.{ShortBuffer}
use Rattle.refusal.specs.Verdicts.{Verdict}
use Rattle.refusal.specs.Values.{code_of}
use Rattle.refusal.proofs.Lower.{Lower}
use Rattle.outcome.specs.declared.Answer.{Answer}
use Rattle.outcome.specs.Outcome.{Answered, Outcome, refused, shown, roomy, in_room, Call}

-- an outcome that writes nothing where it is refused, and that is not refusal 16
pub record Sound (o : Outcome) : Type 0 where
  pub silent : (r : Refusal) → o.answer ≡ Err r → o.words ≡ []
  pub long : o.answer ≡ Err ShortBuffer → ⊥

same-refusal : {r q : Refusal} → ◌≡◌ {A = Answered} (Err r) (Err q) → code_of r ≡ code_of q
same-refusal {r} {q} e = let f : r ≡ q = cc in ap code_of f

-- ---- outcomes

pub other : (r : Refusal) → (code_of r ≡ 16 → ⊥) → Sound (refused r)
other r h = record { silent = λ _ _. refl; long = λ e. h (same-refusal e) }

pub either : (b : Bool) {x y : Outcome} → Sound x → Sound y → Sound (cond b x y)
either true p q = p
either false p q = q

pub shown-sound : (v : Verdict) (a : Answer) (words : List ℕ) → Lower v → Sound (shown v a words)
shown-sound (Ok _) a words l = record { silent = λ r e. cc; long = λ e. cc }
shown-sound (Err r) a words l = other r (l.low r refl)

-- ---- what a caller of an entry point may rely on

module _ {o : Outcome} (sound : Sound o) {result₀ result₁ : List ℕ} {work₀ work₁ : List Float} where
  -- a refusal writes no word of the result
  pub refusal-writes-nothing : {r : Refusal} → Call o result₀ result₁ work₀ work₁ (Err r) → result₁ ≡ result₀
  unfolding in_room
  refusal-writes-nothing {r} s = s.gives.written ∙ go (roomy result₀ work₀) s.gives.answer
    where
      go : (b : Bool) → Err r ≡ (cond b o (refused ShortBuffer)).answer → over (cond b o (refused ShortBuffer)).words result₀ ≡ result₀
      go true e = ap (λ (w : List ℕ). over w result₀) (sound.silent r (sym e))
      go false e = refl

  -- the work slice is left all zero, whatever the outcome
  pub work-cleared : {r : Answered} → Call o result₀ result₁ work₀ work₁ r → work₁ ≡ blank work₀
  work-cleared s = s.blanked

  -- 16 only where a slice is too short
  pub short-case : Call o result₀ result₁ work₀ work₁ (Err ShortBuffer) → roomy result₀ work₀ ≡ false
  unfolding in_room
  short-case s = go (roomy result₀ work₀) refl s.gives.answer
    where
      go : (b : Bool) → roomy result₀ work₀ ≡ b → Err ShortBuffer ≡ (cond b o (refused ShortBuffer)).answer → roomy result₀ work₀ ≡ false
      go true k e = absurd (sound.long (sym e))
      go false k e = k
