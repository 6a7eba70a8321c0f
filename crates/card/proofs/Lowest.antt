-- The lowest place at fault is the earlier of the size's and the first word at fault along the layout. Assumes nothing.
use Rattle.std.proofs.Common.{None, Some}
use Prim.Native.Nat.{ℕ, zero, suc, ◌+◌, ◌-◌, ◌%◌, ◌*◌, ◌≤◌, ◌<◌, zero-le}
use mathlib.Core.Bool.{Bool, true, false, cond, ◌&&◌, ◌||◌}
use mathlib.Core.Path.{◌≡◌, refl, sym, ap, subst, ◌∙◌}
use mathlib.Core.List.{List, [], ◌∷◌}
use mathlib.Core.Logic.{⊎_elim}
use native.Mathlib.Nat.{not-suc-le-zero, eq-or-lt_of_le, add-zero, zero-add}
use native.Mathlib.Omega.{arith}
use borrow.Author.Tests.{eq-eqb, ne_eqb, ltb-true, eqb-true, leb-true, leb-false}
use lib.ListN.{length, get_or}
use lib.Dec.{ltb, eqb, leb}
use Rattle.booleans.proofs.Joined.{or_no, or_left, or_right, or_cases, and_both, and_no}
use Rattle.numbers.specs.Word.{words_in}
use Rattle.card_layout.specs.Limits.{most_words}
use Rattle.card_layout.specs.Layout.{Role, number, faulty, breaks}
use Rattle.card_faults.specs.Walk.{Fault, earlier, walk}
use Rattle.card.specs.Reading.{lowest, at_fault, size_at_fault, word_at_fault, fault_of, examined}
use Rattle.card.specs.Scan.{size_fault}

-- `f` holds of no place below n
pub record Below (f : ℕ → Bool) (n : ℕ) : Type 0 where
  pub none : (k : ℕ) → k < n → f k ≡ false

-- n is the lowest place that f holds of
pub record Lowest (f : ℕ → Bool) (n : ℕ) : Type 0 where
  pub here : f n ≡ true
  pub below : Below f n

-- what an answer says of f: the lowest place of all, or that there is none
unfoldable pub Says : (ℕ → Bool) → Fault → Type 0
Says f (Some p) = Lowest f p
Says f None = (k : ℕ) → f k ≡ false

pub lowest-none : (f : ℕ → Bool) (n : ℕ) → ((k : ℕ) → k < n → f k ≡ false) → lowest n f ≡ None
unfolding lowest
lowest-none f zero h = refl
lowest-none f (suc n) h = rw (lowest-none f n (λ k l. h k (omega arith)), h n (omega arith))

pub lowest-at : (f : ℕ → Bool) (n p : ℕ) → p < n → Lowest f p → lowest n f ≡ Some p
unfolding lowest
lowest-at f zero p l h = absurd (not-suc-le-zero l)
lowest-at f (suc n) p l h =
    ⊎_elim
    (λ (e : p ≡ n).
    rw (← e) (rw (lowest-none f p h.below.none, h.here)))
    (λ (m : p < n). rw (lowest-at f n p m h))
    (eq-or-lt_of_le (omega arith))

-- the walk says where the first word at fault is, if R gives each place its role
unfoldable Found : (ℕ → Bool) → ℕ → Fault → Type 0
Found f p (Some q) = (p ≤ q) × (f q ≡ true) × ((k : ℕ) → p ≤ k → k < q → f k ≡ false)
Found f p None = (k : ℕ) → p ≤ k → f k ≡ false

faults : List ℕ → (ℕ → Role) → ℕ → Bool
faults s R k = faulty s k (R k)

no-rule : (s : List ℕ) (p : ℕ) → faulty s p number ≡ false
unfolding faulty breaks
no-rule s p = refl

step : (f : ℕ → Bool) (p : ℕ) (t : Bool) (w : Fault) → f p ≡ t → Found f (p + 1) w → Found f p (cond t (Some p) w)
unfolding Found
step f p true w e h = (omega arith, e, λ k a b. absurd (omega arith))
step f p false (Some q) e (a, b, g) = (
  omega arith,
  b,
  λ k l m. ⊎_elim (λ (i : p ≡ k). subst (λ (j : ℕ). f j ≡ false) i e) (λ (i : p < k). g k (omega arith) m) (eq-or-lt_of_le l),
)
step f p false None e g =
    λ k l. ⊎_elim (λ (i : p ≡ k). subst (λ (j : ℕ). f j ≡ false) i e) (λ (i : p < k). g k (omega arith)) (eq-or-lt_of_le l)

walked : (s : List ℕ) (R : ℕ → Role) (p : ℕ) (l : List Role) → ((k : ℕ) → get_or l k number ≡ R (p + k)) → Found (faults s R) p (walk s p l)
unfolding walk faults Found
walked s R p [] h =
    λ k m.
    let e : number ≡ R k = h (k - p) ∙ ap R (omega arith) in
    subst (λ (r : Role). faulty s k r ≡ false) e (no-rule s k)
walked s R p (r ∷ l) h =
    let e : r ≡ R p = h 0 ∙ ap R (add-zero p) in
    step (faults s R) p (faulty s p r) (walk s (p + 1) l) (ap (faulty s p) (sym e))
    (walked s R (p + 1) l (λ k. h (suc k) ∙ ap R (omega arith)))

-- the first place of the walk from 0 is the lowest of all
said : (f : ℕ → Bool) (o : Fault) → Found f 0 o → Says f o
unfolding Found Says
said f (Some q) (a, b, g) = record { here = b; below = record { none = λ k l. g k zero-le l } }
said f None g = λ k. g k zero-le

pub words-say : (s : List ℕ) → Says (word_at_fault s) (walk s 0 (examined s))
unfolding word_at_fault faults
words-say s =
    said (word_at_fault s) (walk s 0 (examined s))
    (walked s (λ k. get_or (examined s) k number) 0 (examined s) (λ k. ap (λ (n : ℕ). get_or (examined s) n number) (sym (zero-add k))))

-- the three faults of the size, by their tests and places
three : Bool → Bool → Bool → ℕ → ℕ → Bool
three a b c q p = (a && eqb p 0) || ((b && eqb p most_words) || (c && eqb p q))

three-fault : Bool → Bool → Bool → ℕ → Fault
three-fault a b c q = cond a (Some 0) (cond b (Some most_words) (cond c (Some q) None))

three-say : (a b c : Bool) (q : ℕ) → (b ≡ true → most_words ≤ q) → Says (three a b c q) (three-fault a b c q)
unfolding three three-fault Says
three-say true b c q h = record { here = refl; below = record { none = λ k l. absurd (not-suc-le-zero l) } }
three-say false true c q h =
    record {
      here = refl;
      below =
          record {
            none =
                λ k l.
                let m : most_words ≤ q = h refl in
                rw (ne_eqb k most_words (λ e. omega arith)) (and_no c (eqb k q) (ne_eqb k q (λ e. omega arith)));
          };
    }
three-say false false true q h =
    record { here = eq-eqb q q refl; below = record { none = λ k l. ne_eqb k q (λ e. omega arith) } }
three-say false false false q h = λ k. refl

long : (s : List ℕ) → ltb (most_words * 8) (length s) ≡ true → most_words ≤ words_in s
long s e = let h : most_words * 8 < length s = ltb-true (most_words * 8) (length s) e in omega arith

pub size-says : (s : List ℕ) → Says (size_at_fault s) (size_fault s)
unfolding size_at_fault size_fault three three-fault
size-says s =
    three-say (eqb (length s) 0) (ltb (most_words * 8) (length s)) (ltb 0 (length s % 8)) (words_in s) (long s)

-- of two faults the earlier is the lowest place that one or the other holds of
either : (ℕ → Bool) → (ℕ → Bool) → ℕ → Bool
either f g k = f k || g k

left-low : (f g : ℕ → Bool) (p : ℕ) → Lowest f p → ((k : ℕ) → k < p → g k ≡ false) → Lowest (either f g) p
unfolding either
left-low f g p h n =
    record { here = or_left (f p) (g p) h.here; below = record { none = λ k l. or_no (f k) (g k) (h.below.none k l) (n k l) } }

right-low : (f g : ℕ → Bool) (p : ℕ) → Lowest g p → ((k : ℕ) → k < p → f k ≡ false) → Lowest (either f g) p
unfolding either
right-low f g p h n =
    record { here = or_right (f p) (g p) h.here; below = record { none = λ k l. or_no (f k) (g k) (n k l) (h.below.none k l) } }

by_order : (f g : ℕ → Bool) (p q : ℕ) (t : Bool) → leb p q ≡ t → Lowest f p → Lowest g q → Says (either f g) (cond t (Some p) (Some q))
unfolding Says
by_order f g p q true e h m = let l : p ≤ q = leb-true p q e in left-low f g p h (λ k i. m.below.none k (omega arith))
by_order f g p q false e h m = let l : q < p = leb-false p q e in right-low f g q m (λ k i. h.below.none k (omega arith))

both_say : (f g : ℕ → Bool) (a b : Fault) → Says f a → Says g b → Says (either f g) (earlier a b)
unfolding Says earlier either
both_say f g (Some p) (Some q) h m = by_order f g p q (leb p q) refl h m
both_say f g (Some p) None h m = left-low f g p h (λ k i. m k)
both_say f g None (Some q) h m = right-low f g q m (λ k i. h k)
both_say f g None None h m = λ k. or_no (f k) (g k) (h k) (m k)

-- whatever says where the lowest place is, says what `lowest` finds
says-lowest : (f : ℕ → Bool) (n : ℕ) (o : Fault) → Says f o → ((k : ℕ) → f k ≡ true → k < n) → lowest n f ≡ o
unfolding Says
says-lowest f n (Some p) h b = lowest-at f n p (b p h.here) h
says-lowest f n None h b = lowest-none f n (λ k l. h k)

-- no place above the number of whole words is at fault
placed : (a : Bool) (k m : ℕ) → a && eqb k m ≡ true → (a ≡ true) × (k ≡ m)
placed a k m e = let b = and_both a (eqb k m) e in (b.0, eqb-true k m b.1)

three-within : (a b c : Bool) (q k : ℕ) → (b ≡ true → most_words ≤ q) → three a b c q k ≡ true → k ≤ q
unfolding three
three-within a b c q k h e =
    ⊎_elim (λ x. let z : k ≡ 0 = (placed a k 0 x).1 in omega arith)
    (λ y.
    ⊎_elim (λ x. let p = placed b k most_words x in omega (arith, h p.0, p.1))
    (λ x. let z : k ≡ q = (placed c k q x).1 in omega arith)
    (or_cases (b && eqb k most_words) (c && eqb k q) y))
    (or_cases (a && eqb k 0) ((b && eqb k most_words) || (c && eqb k q)) e)

within : (s : List ℕ) (k : ℕ) → at_fault s k ≡ true → k < suc (words_in s)
unfolding at_fault word_at_fault faulty size_at_fault three
within s k e =
    let r = get_or (examined s) k number in
    ⊎_elim
    (λ x. let h : k ≤ words_in s = three-within (eqb (length s) 0) (ltb (most_words * 8) (length s)) (ltb 0 (length s % 8)) (words_in s) k (long s) x in omega arith)
    (λ x. let h : k < words_in s = ltb-true k (words_in s) (and_both (breaks s k r) (ltb k (words_in s)) x).1 in omega arith)
    (or_cases (size_at_fault s k) (word_at_fault s k) e)

pub found : (s : List ℕ) → fault_of s ≡ earlier (size_fault s) (walk s 0 (examined s))
unfolding fault_of at_fault either
found s =
    says-lowest (at_fault s) (suc (words_in s)) _
    (both_say (size_at_fault s) (word_at_fault s) (size_fault s) (walk s 0 (examined s)) (size-says s) (words-say s))
    (within s)
