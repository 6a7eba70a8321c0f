-- What an accepted card has. Assumes nothing.
use Rattle.std.proofs.Common.{Err, None, Ok, Some}
use Prim.Native.Nat.{ℕ, zero, suc, ◌*◌, ◌%◌, ◌^◌, ◌≤◌, ◌<◌}
use mathlib.Core.Bool.{Bool, true, false, cond, not, ◌&&◌, ◌||◌}
use mathlib.Core.Path.{◌≡◌, refl, sym, ap, subst, ◌∙◌}
use mathlib.Core.List.{List, [], ◌∷◌}
use mathlib.Core.Logic.{⊎_elim}
use native.Mathlib.Nat.{add-zero, eq-or-lt_of_le, not-suc-le-zero}
use native.Mathlib.Omega.{arith}
use borrow.Author.Tests.{ltb-true, ne_eqb, le-ltb, ltb-false, eqb-true, eq-eqb, lt-ltb, not-false}
use lib.ListN.{length, get_or, get_or-eq_default}
use lib.Dec.{ltb, eqb, lit<}
use Rattle.booleans.proofs.Joined.{clash, neither, or_no, first-not}
use Rattle.numbers.specs.Word.{words_in, word_at}
use Rattle.refusal.specs.declared.Refusal.TheVariants.{InvalidQubits, Shape}
use Rattle.card_layout.specs.declared.Header.{Header}
use Rattle.card_layout.specs.declared.Coordinate.{Coordinate}
use Rattle.card_layout.specs.Fields.{coordinate_of, length_of, rest_of}
use Rattle.card_layout.specs.Limits.{limits_of, longest, most_words, most_rotations}
use Rattle.card_layout.specs.Rules.{qubits_break, word0_breaks, sequence_breaks, coordinate_breaks}
use Rattle.card_layout.specs.Layout.{Role, word0, number, at_most, sequence, coordinate, control_roles, record_roles, layout, faulty, breaks}
use Rattle.card_layout.proofs.EachKind.{keeps, some-matrix, some-qubits, few-qubits}
use Rattle.card_layout.proofs.Lengths.{length-record}
use Rattle.card_places.specs.Places.{wanted_words, record_at, coordinate_at}
use Rattle.card_places.proofs.ByKind.{after2, after4, words1, words2, words3, words4, words5, words6, words7}
use Rattle.card_places.proofs.Standing.{Stands, stands-fits, stands-role, controls-stand, record-stands, coordinate-stands}
use Rattle.card_places.specs.Shape.{Shaped}
use Rattle.card_places.proofs.Sizes.{wanted-most}
use Rattle.card_places.proofs.Within.{shaped}
use Rattle.card_parts.specs.Parts.{Sequence, coordinate_in}
use Rattle.card_parts.proofs.Sequences.{length_sequence}
use Rattle.card_faults.specs.Walk.{Fault, first_of}
use Rattle.card.specs.Reading.{header, examined, word_at_fault, size_at_fault, at_fault, lowest, fault_of, length_read, after_fault, read_of}
use Rattle.card.proofs.Lowest.{lowest-none}
use Rattle.card.specs.Accepts.{InversionCard, ProjectionCard, ProcessCard, TransferCard, FitCard, Names, Accepts}

-- ---- The tests that acceptance passed
split : (f : Fault) (b t : Bool) (w n : ℕ) (g h : Header) → after_fault f (cond b (Err InvalidQubits) (cond t (Ok g) (Err (Shape w n)))) ≡ Ok h → (f ≡ None) × (b ≡ false) × (t ≡ true) × (g ≡ h)
split (Some p) b t w n g h e = let z : ◌≡◌ {A = ℕ} 0 1 = cc in absurd (omega arith)
split None true t w n g h e = let z : ◌≡◌ {A = ℕ} 0 1 = cc in absurd (omega arith)
split None false true w n g h e = (refl, refl, refl, cc)
split None false false w n g h e = let z : ◌≡◌ {A = ℕ} 0 1 = cc in absurd (omega arith)

record Passed (s : List ℕ) (h : Header) : Type 0 where
  word0 : h ≡ header s
  faultless : fault_of s ≡ None
  qubits : qubits_break h ≡ false
  whole : wanted_words h ≡ words_in s

passed : (s : List ℕ) (h : Header) → read_of s ≡ Ok h → Passed s h
unfolding read_of length_read
passed s h e =
    let p = split (fault_of s) (qubits_break (header s)) (eqb (wanted_words (header s)) (words_in s)) (wanted_words (header s)) (words_in s) (header s) h e in
    record {
      word0 = sym p.3;
      faultless = p.0;
      qubits = ap qubits_break (sym p.3) ∙ p.1;
      whole = ap wanted_words (sym p.3) ∙ eqb-true (wanted_words (header s)) (words_in s) p.2;
    }

-- ---- No place is at fault
first-no : (a b : Fault) → first_of a b ≡ None → (a ≡ None) × (b ≡ None)
first-no (Some p) b e = let z : ◌≡◌ {A = ℕ} 0 1 = cc in absurd (omega arith)
first-no None b e = (refl, e)

cond_no : (t : Bool) (n : ℕ) → cond t (Some n) None ≡ None → t ≡ false
cond_no true n e = let z : ◌≡◌ {A = ℕ} 0 1 = cc in absurd (omega arith)
cond_no false n e = refl

lowest-no : (n : ℕ) (f : ℕ → Bool) → lowest n f ≡ None → (k : ℕ) → k < n → f k ≡ false
unfolding lowest
lowest-no zero f e k l = absurd (not-suc-le-zero l)
lowest-no (suc n) f e k l =
    let p = first-no (lowest n f) (cond (f n) (Some n) None) e in
    ⊎_elim (λ (q : k ≡ n). ap f q ∙ cond_no (f n) n p.1) (λ (m : k < n). lowest-no n f p.0 k m) (eq-or-lt_of_le (omega arith))

-- a coordinate that keeps its rule
names : (c : Coordinate) (a b d : Bool) → eqb c.kind 1 ≡ a → eqb c.kind 2 ≡ b → eqb c.kind 3 ≡ d → cond a (not (eqb c.which 0) || not (eqb c.row 0)) (cond b (not (eqb c.row 0)) (cond d false true)) ≡ false → Names c
names c true b d p q r e =
    let k : c.kind ≡ 1 = eqb-true c.kind 1 p in
    let n = neither (not (eqb c.which 0)) (not (eqb c.row 0)) e in
    record {
      least = omega arith;
      most = omega arith;
      state = λ _. (eqb-true c.which 0 (not-false (eqb c.which 0) n.0), eqb-true c.row 0 (not-false (eqb c.row 0) n.1));
      effect = λ _. eqb-true c.row 0 (not-false (eqb c.row 0) n.1);
    }
names c false true d p q r e =
    let k : c.kind ≡ 2 = eqb-true c.kind 2 q in
    record {
      least = omega arith;
      most = omega arith;
      state = λ z. absurd (omega arith);
      effect = λ _. eqb-true c.row 0 (not-false (eqb c.row 0) e);
    }
names c false false true p q r e =
    let k : c.kind ≡ 3 = eqb-true c.kind 3 r in
    record { least = omega arith; most = omega arith; state = λ z. absurd (omega arith); effect = λ z. absurd (omega arith) }
names c false false false p q r e = clash true refl e

module _ (s : List ℕ) (h : Header) (a : Passed s h) where
  none : (p : ℕ) → p ≤ words_in s → (size_at_fault s p ≡ false) × (word_at_fault s p ≡ false)
  unfolding fault_of at_fault
  none p l = neither (size_at_fault s p) (word_at_fault s p) (lowest-no (suc (words_in s)) (at_fault s) a.faultless p (omega arith))

  looked : examined s ≡ layout h
  unfolding examined
  looked =
      let q : qubits_break (header s) ≡ false = ap qubits_break (sym a.word0) ∙ a.qubits in
      rw q (ap layout (sym a.word0))

  -- every word keeps its rule
  rules : (p : ℕ) → p < wanted_words h → breaks s p (get_or (layout h) p number) ≡ false
  unfolding word_at_fault faulty
  rules p l =
      let m : p < words_in s = omega (arith, a.whole) in
      ap (λ (x : List Role). breaks s p (get_or x p number)) (sym looked)
      ∙ first-not (breaks s p (get_or (examined s) p number)) (ltb p (words_in s)) (lt-ltb p (words_in s) m) (none p (omega arith)).1

  -- a word whose role is known
  kept : (p : ℕ) (r : Role) → p < wanted_words h → get_or (layout h) p number ≡ r → breaks s p r ≡ false
  kept p r l e = ap (breaks s p) (sym e) ∙ rules p l

  -- the size: whole words, and as many as wanted
  size : length s ≡ 8 * wanted_words h
  unfolding size_at_fault
  size =
      let n = words_in s in
      let f = neither (eqb (length s) 0 && eqb n 0) ((ltb (most_words * 8) (length s) && eqb n most_words) || (ltb 0 (length s % 8) && eqb n n)) (none n (omega arith)).0 in
      let g = neither (ltb (most_words * 8) (length s) && eqb n most_words) (ltb 0 (length s % 8) && eqb n n) f.1 in
      let z : length s % 8 ≤ 0 = ltb-false 0 (length s % 8) (first-not (ltb 0 (length s % 8)) (eqb n n) (eq-eqb n n refl) g.1) in
      omega (arith, a.whole)

  word0-kept : word0_breaks h ≡ false
  unfolding breaks header layout
  word0-kept = ap word0_breaks a.word0 ∙ kept 0 word0 (omega arith) refl

  -- a limit at place p
  most : (p m : ℕ) → p < wanted_words h → get_or (layout h) p number ≡ at_most m → word_at s p ≤ m
  unfolding breaks
  most p m l e = ltb-false m (word_at s p) (kept p (at_most m) l e)

  short : (r : ℕ) → r < h.records → Sequence s h r
  unfolding breaks sequence_breaks record_roles
  short r l =
      let x : Stands (layout h) (record_at h r) (record_roles h.effects) = record-stands h word0-kept r l in
      let b : sequence_breaks (word_at s (record_at h r)) ≡ false =
      kept (record_at h r) sequence (omega (arith, stands-fits x, length-record h.effects))
      (ap (λ (p : ℕ). get_or (layout h) p number) (sym (add-zero (record_at h r))) ∙ stands-role x number 0 (omega (arith, length-record h.effects))) in
      let w = word_at s (record_at h r) in
      let n : length_of w ≤ longest = ltb-false longest (length_of w) (neither (ltb longest (length_of w)) (not (eqb (rest_of w) 0)) b).0 in
      record { there = l; short = omega (arith, length_sequence s h r) }

  named : (c : ℕ) → c < h.coordinates → Names (coordinate_in s h c)
  unfolding breaks coordinate_breaks coordinate_in
  named c l =
      let x : Stands (layout h) (coordinate_at h c) (coordinate ∷ []) = coordinate-stands h word0-kept c l in
      let w = coordinate_of (word_at s (coordinate_at h c)) in
      names w (eqb w.kind 1) (eqb w.kind 2) (eqb w.kind 3) refl refl refl
      (kept (coordinate_at h c) coordinate (omega (arith, stands-fits x))
      (ap (λ (p : ℕ). get_or (layout h) p number) (sym (add-zero (coordinate_at h c))) ∙ stands-role x number 0 (omega arith)))

  -- kind by kind
  some-n : (k : ℕ) → h.kind ≡ k → 0 < (limits_of k).qubits → 1 ≤ h.qubits
  some-n k e l = some-qubits h word0-kept a.qubits (subst (λ (j : ℕ). 0 < (limits_of j).qubits) (sym e) l)

  few-n : (k : ℕ) → h.kind ≡ k → h.qubits ≤ (limits_of k).qubits
  few-n k e = subst (λ (j : ℕ). h.qubits ≤ (limits_of j).qubits) e (few-qubits h word0-kept a.qubits)

  words : (n : ℕ) → wanted_words h ≡ n → length s ≡ 8 * n
  words n e = size ∙ ap (λ (x : ℕ). 8 * x) e

  inversion : h.kind ≡ 1 → InversionCard s h
  unfolding limits_of
  inversion e = record { some = some-n 1 e (lit< tt); few = few-n 1 e; words = words _ (words1 h e) }

  projection : h.kind ≡ 2 → ProjectionCard s h
  unfolding layout
  projection e =
      record {
        some = some-matrix h word0-kept e;
        few = (shaped s h word0-kept a.qubits size).limits.dimension;
        rotations = most 2 (most_rotations h.dimension) (omega (arith, words2 h e)) (ap (λ (l : List Role). get_or (word0 ∷ l) 2 number) (after2 h e));
        words = words _ (words2 h e);
      }

  process : h.kind ≡ 3 → ProcessCard s h
  unfolding limits_of
  process e = record { some = some-n 3 e (lit< tt); few = few-n 3 e; words = words _ (words3 h e) }

  transfer : h.kind ≡ 4 → TransferCard s h
  unfolding limits_of layout
  transfer e =
      record {
        some = some-n 4 e (lit< tt);
        few = few-n 4 e;
        rotations = most 2 (most_rotations (4 ^ h.qubits)) (omega (arith, words4 h e)) (ap (λ (l : List Role). get_or (word0 ∷ l) 2 number) (after4 h e));
        words = words _ (words4 h e);
      }

  fit : h.kind ≡ 5 → FitCard s h
  fit e =
      let x : Stands (layout h) 1 control_roles = controls-stand h e in
      record {
        iterations = most 1 _ (omega (arith, stands-fits x)) (stands-role x number 0 (omega arith));
        backtracks = most 7 _ (omega (arith, stands-fits x)) (stands-role x number 6 (omega arith));
        words = words _ (words5 h e);
      }

pub accepted : (s : List ℕ) (h : Header) → read_of s ≡ Ok h → Accepts s h
accepted s h e =
    let a = passed s h e in
    record {
      header = a.word0;
      shaped = shaped s h (word0-kept s h a) a.qubits (size s h a);
      fields = keeps h (word0-kept s h a);
      kind1 = inversion s h a;
      kind2 = projection s h a;
      kind3 = process s h a;
      kind4 = transfer s h a;
      kind5 = fit s h a;
      kind6 = λ k. record { words = words s h a _ (words6 h k) };
      kind7 = λ k. record { words = words s h a _ (words7 h k) };
      sequence = short s h a;
      coordinate = named s h a;
      rules = rules s h a;
    }

-- ---- And back: a card of the shape whose words keep their rules is accepted
module _ (s : List ℕ) (h : Header) (e : h ≡ header s) (a : Shaped s h) (keep : (p : ℕ) → p < wanted_words h → breaks s p (get_or (layout h) p number) ≡ false) where
  right-size : (p : ℕ) → size_at_fault s p ≡ false
  unfolding size_at_fault layout
  right-size p =
      let w : wanted_words h ≤ 6601 = wanted-most h a.limits a.word0 a.qubits in
      rw (
        ne_eqb (length s) 0 (λ z. omega (arith, a.length)),
        le-ltb (most_words * 8) (length s) (omega (arith, a.length)),
        le-ltb 0 (length s % 8) (omega (arith, a.length)),
      )

  right-word : (p : ℕ) (b : Bool) → ltb p (wanted_words h) ≡ b → breaks s p (get_or (layout h) p number) ≡ false
  unfolding breaks
  right-word p true q = keep p (ltb-true p (wanted_words h) q)
  right-word p false q = ap (breaks s p) (get_or-eq_default (layout h) number (ltb-false p (wanted_words h) q))

  right : (p : ℕ) → at_fault s p ≡ false
  unfolding at_fault word_at_fault faulty examined
  right p =
      let q : qubits_break (header s) ≡ false = ap qubits_break (sym e) ∙ a.qubits in
      let w : breaks s p (get_or (layout (header s)) p number) ≡ false =
      ap (λ (k : Header). breaks s p (get_or (layout k) p number)) (sym e) ∙ right-word p (ltb p (wanted_words h)) refl in
      or_no (size_at_fault s p) (word_at_fault s p) (right-size p) (rw (q, w))

  pub reads : read_of s ≡ Ok h
  unfolding read_of length_read fault_of
  reads =
      let q : qubits_break (header s) ≡ false = ap qubits_break (sym e) ∙ a.qubits in
      let n : eqb (wanted_words (header s)) (words_in s) ≡ true = eq-eqb _ _ (ap wanted_words (sym e) ∙ omega (arith, a.length)) in
      rw (lowest-none (at_fault s) (suc (words_in s)) (λ k l. right k), q, n) (ap Ok (sym e))
