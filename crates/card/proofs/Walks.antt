-- The first word at fault, kind by kind, as the code looks for it. Assumes nothing.
use Rattle.std.proofs.Common.{None, Some}
use Prim.Native.Nat.{ℕ, zero, suc, ◌*◌, ◌%◌, ◌≤◌, ◌^◌, ◌<◌}
use mathlib.Core.Bool.{Bool, true, false, cond}
use mathlib.Core.Path.{◌≡◌, refl, sym, ap, ◌∙◌}
use mathlib.Core.List.{List, [], ◌∷◌, ◌++◌}
use native.Mathlib.Omega.{arith}
use borrow.Author.Tests.{ne_eqb, lt-ltb, le-ltb, lt-leb, eqb-false, ltb-false}
use lib.ListN.{length}
use lib.Dec.{eqb, ltb}
use Rattle.numbers.specs.Word.{words_in}
use Rattle.card_layout.specs.declared.Header.{Header}
use Rattle.card_layout.specs.Limits.{most_iterations, most_backtracks, most_rotations, most_words}
use Rattle.card_layout.specs.Rules.{word0_breaks, qubits_break}
use Rattle.card_layout.specs.Layout.{Role, word0, number, at_most, control_roles, after_word0, layout, faulty, breaks}
use Rattle.card_layout.proofs.Lengths.{length-model, length-records}
use Rattle.card_places.specs.Places.{after_model, coordinate_at, model_at}
use Rattle.card_places.proofs.ByKind.{model, records, coordinates, after2, after4, after5, after7, at5, at7}
use Rattle.card_faults.specs.Walk.{Fault, first_of, earlier, walk}
use Rattle.card_faults.proofs.Walking.{Clean, clean-append, clean-times, clean-number, clean-numbers, clean-model, clean-nil, walk-append, walk-front, walk-past, none-there}
use Rattle.card.specs.Reading.{header, examined, fault_of}
use Rattle.card.specs.Scan.{size_fault}
use Rattle.card.proofs.Lowest.{found}

clean-head : {l : List Role} → Clean l → Clean (number ∷ l)
clean-head f = clean-append {a = number ∷ []} clean-number f

clean-two : Clean (number ∷ number ∷ [])
clean-two = clean-head clean-number

-- tolerance, a limit, numbers
limited : (s : List ℕ) (m : ℕ) (l : List Role) → Clean l → walk s 2 (at_most m ∷ []) ≡ walk s 1 (number ∷ at_most m ∷ l)
limited s m l c = sym (walk-front s 2 (at_most m ∷ []) l c) ∙ sym (walk-past s 1 (number ∷ []) (at_most m ∷ l) clean-number)

module _ (s : List ℕ) (h : Header) where
  pub fault2 : h.kind ≡ 2 → walk s 2 (at_most (most_rotations h.dimension) ∷ []) ≡ walk s 1 (after_word0 h)
  fault2 e = rw (after2 h e) (limited s _ _ (clean-times (h.dimension * h.dimension) clean-two))

  pub fault4 : h.kind ≡ 4 → walk s 2 (at_most (most_rotations (4 ^ h.qubits)) ∷ []) ≡ walk s 1 (after_word0 h)
  fault4 e = rw (after4 h e) (limited s _ _ (clean-numbers (16 ^ h.qubits)))

  -- past the model
  past-model : (p : ℕ) (l : List Role) → p ≡ model_at h → walk s p (model h ++ l) ≡ walk s (after_model h) l
  past-model p l e =
      walk-past s p (model h) l (clean-model h.dimension h.effects h.gates)
      ∙ ap (λ (q : ℕ). walk s q l) (omega (arith, length-model h.dimension h.effects h.gates))

  pub fault7 : h.kind ≡ 7 → walk s (after_model h) (records h) ≡ walk s 1 (after_word0 h)
  fault7 e =
      rw (after7 h e)
      (sym (walk-past s 1 (number ∷ []) (model h ++ records h) clean-number ∙ past-model 2 (records h) (sym (at7 h e))))

  -- the controls: only the first and the seventh have a rule
  controls : (l : List Role) → walk s 1 (control_roles ++ l) ≡ first_of (walk s 1 (at_most most_iterations ∷ [])) (first_of (walk s 7 (at_most most_backtracks ∷ [])) (walk s 9 l))
  controls l =
      walk-append s 1 (at_most most_iterations ∷ []) (number ∷ number ∷ number ∷ number ∷ number ∷ at_most most_backtracks ∷ number ∷ l)
      ∙ ap (first_of (walk s 1 (at_most most_iterations ∷ [])))
      (walk-past s 2 (number ∷ number ∷ number ∷ number ∷ number ∷ []) (at_most most_backtracks ∷ number ∷ l) (clean-head (clean-head (clean-head clean-two)))
      ∙ walk-append s 7 (at_most most_backtracks ∷ []) (number ∷ l)
      ∙ ap (first_of (walk s 7 (at_most most_backtracks ∷ []))) (walk-past s 8 (number ∷ []) l clean-number))

  pub fault5 : h.kind ≡ 5 → first_of (walk s 1 (at_most most_iterations ∷ [])) (first_of (walk s 7 (at_most most_backtracks ∷ [])) (first_of (walk s (after_model h) (records h)) (walk s (coordinate_at h 0) (coordinates h)))) ≡ walk s 1 (after_word0 h)
  fault5 e =
      rw (after5 h e)
      (sym
      (controls (model h ++ (records h ++ coordinates h))
      ∙ ap (λ (f : Fault). first_of (walk s 1 (at_most most_iterations ∷ [])) (first_of (walk s 7 (at_most most_backtracks ∷ [])) f))
      (past-model 9 (records h ++ coordinates h) (sym (at5 h e))
      ∙ walk-append s (after_model h) (records h) (coordinates h)
      ∙ ap (λ (q : ℕ). first_of (walk s (after_model h) (records h)) (walk s q (coordinates h))) (omega (arith, length-records h.records h.effects)))))

  -- the other kinds have no word with a rule after word 0
  clean-cond : (t : Bool) {a b : List Role} → Clean a → Clean b → Clean (cond t a b)
  clean-cond true f g = f
  clean-cond false f g = g

  pub faultless : (h.kind ≡ 2 → ⊥) → (h.kind ≡ 4 → ⊥) → (h.kind ≡ 5 → ⊥) → (h.kind ≡ 7 → ⊥) → None ≡ walk s 1 (after_word0 h)
  unfolding after_word0
  faultless a b c d =
      let v = clean-times (4 ^ h.qubits) (clean-numbers (4 ^ h.qubits)) in
      rw (ne_eqb _ _ a, ne_eqb _ _ b, ne_eqb _ _ c, ne_eqb _ _ d)
      (sym
      ((clean-cond (eqb h.kind 1) (clean-head (clean-numbers (4 ^ h.qubits)))
      (clean-cond (eqb h.kind 3) (clean-head (clean-append v v))
      (clean-cond (eqb h.kind 6) (clean-append (clean-model h.dimension h.effects h.gates) (clean-numbers (h.dimension * h.dimension)))
      clean-nil))).none s 1))

-- ---- Word 0
module _ (s : List ℕ) where
  -- it keeps its rule: the fault is that of the words after it
  kept : (l : List Role) → word0_breaks (header s) ≡ false → walk s 0 (word0 ∷ l) ≡ walk s 1 l
  unfolding walk faulty breaks header
  kept l e = rw e

  -- where n is at fault word 0 is all that is looked at, and otherwise the whole layout
  pub short : word0_breaks (header s) ≡ false → qubits_break (header s) ≡ true → None ≡ walk s 0 (examined s)
  unfolding examined walk
  short w e = rw e (sym (kept [] w))

  pub long : word0_breaks (header s) ≡ false → qubits_break (header s) ≡ false → walk s 1 (after_word0 (header s)) ≡ walk s 0 (examined s)
  unfolding examined layout
  long w e = rw e (sym (kept (after_word0 (header s)) w))

  -- it breaks its rule: no place is lower
  broken : (l : List Role) → 8 ≤ length s → word0_breaks (header s) ≡ true → walk s 0 (word0 ∷ l) ≡ Some 0
  unfolding walk faulty breaks header
  broken l h e = let t : ltb 0 (words_in s) ≡ true = lt-ltb 0 (words_in s) (omega arith) in rw (e, t)

  first-zero : (b : Bool) → 8 ≤ length s → word0_breaks (header s) ≡ true → walk s 0 (cond b (word0 ∷ []) (layout (header s))) ≡ Some 0
  unfolding layout
  first-zero true h e = broken [] h e
  first-zero false h e = broken (after_word0 (header s)) h e

  lower-zero : (f : Fault) → earlier f (Some 0) ≡ Some 0
  unfolding earlier
  lower-zero (Some zero) = refl
  lower-zero (Some (suc p)) = rw (lt-leb (suc p) 0 (omega arith))
  lower-zero None = refl

  pub word0_fault : 8 ≤ length s → word0_breaks (header s) ≡ true → fault_of s ≡ Some 0
  unfolding examined
  word0_fault h e = found s ∙ ap (earlier (size_fault s)) (first-zero (qubits_break (header s)) h e) ∙ lower-zero (size_fault s)

  -- with less than one word the card is refused at 0
  few : (a b : Bool) → length s < 8 → eqb (length s) 0 ≡ a → ltb 0 (length s % 8) ≡ b → size_fault s ≡ Some 0
  unfolding size_fault
  few true b h e f = rw e
  few false true h e f = rw (e, le-ltb (most_words * 8) (length s) (omega arith), f) (ap Some (omega arith))
  few false false h e f = let m : length s % 8 ≤ 0 = ltb-false 0 (length s % 8) f in absurd (eqb-false (length s) 0 e (omega arith))

  pub no_word : length s < 8 → fault_of s ≡ Some 0
  unfolding earlier
  no_word h = found s ∙ rw (few _ _ h refl refl, none-there s 0 (examined s) (omega arith))
