-- Laws of the walk along the layout. Assumes nothing.
use Rattle.std.proofs.Common.{None, Some}
use Prim.Native.Nat.{ℕ, zero, suc, ◌+◌, ◌-◌, ◌*◌, ◌≤◌, ◌<◌}
use mathlib.Core.Bool.{Bool, true, false, cond, ◌&&◌, and-false}
use mathlib.Core.Path.{◌≡◌, refl, sym, ap, ◌∙◌}
use Rattle.std.specs.Prelude.{MatchOption}
use Rattle.std.proofs.Common.{inl, inr, subst}
use Rattle.std.proofs.Math.Nat.{eq-or-lt_of_le}
use mathlib.Core.List.{List, [], ◌∷◌, ◌++◌}
use native.Mathlib.Numerals.{add-one}
use native.Mathlib.Nat.{add-zero}
use native.Mathlib.Omega.{arith}
use borrow.Author.Tests.{le-ltb}
use lib.ListN.{length}
use Rattle.numbers.specs.Word.{words_in}
use Rattle.card_layout.specs.Layout.{Role, number, name, count, indices, faulty, breaks, times, numbers, record_roles, sequence_roles, model_roles}
use Rattle.card_layout.proofs.Lengths.{length-times}
use Rattle.card_faults.specs.Walk.{Fault, first_of, walk}

-- a word that is not there is not at fault
pub absent : (s : List ℕ) (p : ℕ) (r : Role) → words_in s ≤ p → false ≡ faulty s p r
unfolding faulty
absent s p r h = sym (and-false (breaks s p r)) ∙ ap (λ (t : Bool). breaks s p r && t) (sym (le-ltb p (words_in s) h))

cond-first : (t : Bool) (p : ℕ) (y z : Fault) → cond t (Some p) (first_of y z) ≡ first_of (cond t (Some p) y) z
cond-first true p y z = refl
cond-first false p y z = refl

pub walk-append : (s : List ℕ) (p : ℕ) (a b : List Role) → walk s p (a ++ b) ≡ first_of (walk s p a) (walk s (p + length a) b)
unfolding walk
walk-append s p [] b = ap (λ (q : ℕ). walk s q b) (sym (add-zero p))
walk-append s p (r ∷ a) b =
    ap (λ (f : Fault). cond (faulty s p r) (Some p) f) (walk-append s (p + 1) a b)
    ∙ cond-first (faulty s p r) p (walk s (p + 1) a) (walk s (p + 1 + length a) b)
    ∙ ap (λ (q : ℕ). first_of (walk s p (r ∷ a)) (walk s q b)) (omega arith)

-- a part of the layout with no rule
pub record Clean (l : List Role) : Type 0 where
  pub none : (s : List ℕ) (p : ℕ) → walk s p l ≡ None

pub clean-append : {a b : List Role} → Clean a → Clean b → Clean (a ++ b)
clean-append {a} {b} f g =
    record {
      none = λ s p. walk-append s p a b ∙ ap (λ (x : Fault). first_of x (walk s (p + length a) b)) (f.none s p) ∙ g.none s (p + length a);
    }

pub clean-nil : Clean []
unfolding walk
clean-nil = record { none = λ s p. refl }

pub clean-times : (n : ℕ) {l : List Role} → Clean l → Clean (times n l)
unfolding times
clean-times zero f = clean-nil
clean-times (suc n) f = clean-append (clean-times n f) f

-- a role with no rule
free : (r : Role) → ((s : List ℕ) (p : ℕ) → breaks s p r ≡ false) → Clean (r ∷ [])
unfolding walk faulty
free r h = record { none = λ s p. rw (h s p) }

pub clean-number : Clean (number ∷ [])
unfolding breaks
clean-number = free number (λ s p. refl)

pub clean-numbers : (n : ℕ) → Clean (numbers n)
clean-numbers n = clean-times n clean-number

pub clean-model : (d e g : ℕ) → Clean (model_roles d e g)
unfolding model_roles breaks
clean-model d e g =
    clean-append (clean-numbers d)
    (clean-append (clean-times e (clean-numbers d)) (clean-times g (clean-append {a = name ∷ []} (free name (λ s p. refl)) (clean-numbers (d * d)))))

clean-counts : (e : ℕ) → Clean (times e (count ∷ []))
unfolding breaks
clean-counts e = clean-times e (free count (λ s p. refl))

first-nothing : (f : Fault) → first_of f None ≡ f
first-nothing (Some p) = refl
first-nothing None = refl

-- what follows has no rule
pub walk-front : (s : List ℕ) (p : ℕ) (a b : List Role) → Clean b → walk s p (a ++ b) ≡ walk s p a
walk-front s p a b f = walk-append s p a b ∙ ap (first_of (walk s p a)) (f.none s (p + length a)) ∙ first-nothing (walk s p a)

-- what goes before has no rule
pub walk-past : (s : List ℕ) (p : ℕ) (a b : List Role) → Clean a → walk s p (a ++ b) ≡ walk s (p + length a) b
walk-past s p a b f = walk-append s p a b ∙ ap (λ (x : Fault). first_of x (walk s (p + length a) b)) (f.none s p)

pub walk-record : (s : List ℕ) (p e : ℕ) → walk s p (record_roles e) ≡ walk s p sequence_roles
unfolding record_roles
walk-record s p e = walk-front s p sequence_roles (times e (count ∷ [])) (clean-counts e)

pub times_none : (s : List ℕ) (p : ℕ) (l : List Role) → walk s p (times 0 l) ≡ None
unfolding times walk
times_none s p l = refl

-- one turn: f is the fault of i parts, g that of the next, which starts at q
pub times_more : (s : List ℕ) (p i : ℕ) (l : List Role) {f g : Fault} (q : ℕ) → f ≡ walk s p (times i l) → q ≡ p + i * length l → g ≡ walk s q l → first_of f g ≡ walk s p (times (i + 1) l)
unfolding times
times_more s p i l {f} {g} q e k h =
    let z : p + length (times i l) ≡ q = omega (arith, length-times i l) in
    rw (add-one, walk-append s p (times i l) l, z, e, h)

-- no part of the n is at fault
pub times_clean : (s : List ℕ) (p n : ℕ) (l : List Role) → ((k : ℕ) → k < n → walk s (p + k * length l) l ≡ None) → None ≡ walk s p (times n l)
times_clean s p zero l h = sym (times_none s p l)
times_clean s p (suc n) l h =
    times_more s p n l (p + n * length l) (times_clean s p n l (λ k d. h k (omega arith))) refl (sym (h n (omega arith)))
    ∙ ap (λ m. walk s p (times m l)) (add-one n)

-- part i is at fault, and none before it, of i + 1 + m
times_hit : (s : List ℕ) (p i m : ℕ) (l : List Role) (y : ℕ) → walk s (p + i * length l) l ≡ Some y → ((k : ℕ) → k < i → walk s (p + k * length l) l ≡ None)
    → Some y ≡ walk s p (times (i + 1 + m) l)
times_hit s p i zero l y e h =
    times_more s p i l (p + i * length l) (times_clean s p i l h) refl (sym e) ∙ ap (λ k. walk s p (times k l)) (sym (add-zero (i + 1)))
times_hit s p i (suc m) l y e h =
    times_more s p (i + 1 + m) l (p + (i + 1 + m) * length l) (times_hit s p i m l y e h) refl refl
    ∙ ap (λ k. walk s p (times k l)) (omega arith)

-- the fault of the first of n parts that has one
pub first_of_parts : (s : List ℕ) (p n : ℕ) (l : List Role) (r : Fault)
    → MatchOption r ((k : ℕ) → k < n → walk s (p + k * length l) l ≡ None)
    (λ y. (i : ℕ) × (i < n) × (walk s (p + i * length l) l ≡ Some y) × ((k : ℕ) → k < i → walk s (p + k * length l) l ≡ None))
    → r ≡ walk s p (times n l)
first_of_parts s p n l None h = times_clean s p n l h
first_of_parts s p n l (Some y) h = times_hit s p h.0 (n - (h.0 + 1)) l y h.2 h.3 ∙ ap (λ k. walk s p (times k l)) (omega (arith, h.1))

-- the roles of n words from place p on, where the role of a word is told by its place
pub roles : (ℕ → Role) → ℕ → ℕ → List Role
roles at p zero = []
roles at p (suc n) = at p ∷ roles at (p + 1) n

-- the first place from p to e, n words on, whose word is at fault
pub first_of_roles : (s : List ℕ) (at : ℕ → Role) (p n e : ℕ) (r : Fault) → e ≡ p + n
    → MatchOption r ((k : ℕ) → p ≤ k → k < e → faulty s k (at k) ≡ false)
    (λ q. (p ≤ q) × (q < e) × (faulty s q (at q) ≡ true) × ((k : ℕ) → p ≤ k → k < q → faulty s k (at k) ≡ false))
    → r ≡ walk s p (roles at p n)
unfolding walk roles
first_of_roles s at p zero e None t h = refl
first_of_roles s at p zero e (Some q) t h = absurd (omega (arith, h.0, h.1))
first_of_roles s at p (suc n) e None t h =
    rw (h p (omega arith) (omega arith)) (first_of_roles s at (p + 1) n e None (omega arith) (λ k a b. h k (omega arith) b))
first_of_roles s at p (suc n) e (Some q) t h =
    elim (eq-or-lt_of_le h.0) [
      | inl i ↦ subst (λ k. Some q ≡ cond (faulty s k (at k)) (Some k) (walk s (k + 1) (roles at (k + 1) n))) (sym i) (rw h.2)
      | inr d ↦ rw (h.3 p (omega arith) d) (first_of_roles s at (p + 1) n e (Some q) (omega arith) (omega arith, h.1, h.2, λ k a b. h.3 k (omega arith) b))
    ]

-- n words of one role
pub times_roles : (r : Role) (p n : ℕ) → times n (r ∷ []) ≡ roles (λ q. r) p n
unfolding times roles
times_roles r p zero = refl
times_roles r p (suc n) = front n ∙ ap (◌∷◌ r) (times_roles r (p + 1) n)
  where
    front : (m : ℕ) → times m (r ∷ []) ++ (r ∷ []) ≡ r ∷ times m (r ∷ [])
    front zero = refl
    front (suc m) = ap (λ l. l ++ (r ∷ [])) (front m)

pub index_roles : (p : ℕ) → roles (λ q. indices (q - p)) p 4 ≡ indices 0 ∷ indices 1 ∷ indices 2 ∷ indices 3 ∷ []
unfolding roles
index_roles p =
    let a : p - p ≡ 0 = omega arith in
    let b : p + 1 - p ≡ 1 = omega arith in
    let c : p + 1 + 1 - p ≡ 2 = omega arith in
    let d : p + 1 + 1 + 1 - p ≡ 3 = omega arith in
    rw (a, b, c, d)

-- a first word that is not at fault
pub walk_on : (s : List ℕ) (p : ℕ) (r : Role) (l : List Role) {f : Fault} → faulty s p r ≡ false → f ≡ walk s (p + 1) l → f ≡ walk s p (r ∷ l)
unfolding walk
walk_on s p r l h e = rw h e

-- past the end of the card nothing is at fault
pub none-there : (s : List ℕ) (p : ℕ) (l : List Role) → words_in s ≤ p → walk s p l ≡ None
unfolding walk
none-there s p [] h = refl
none-there s p (r ∷ l) h = rw (← absent s p r h) (none-there s (p + 1) l (omega arith))
