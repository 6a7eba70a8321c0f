-- The largest of some numbers, and the first of the largest. A NaN is never one, and no number that is not above 0. Assumes nothing.
use mathlib.Core.Path.{◌≡◌, refl, sym, ◌∙◌, ap, subst}
use mathlib.Core.Bool.{Bool, true, false, not, cond}
use mathlib.Core.Logic.{◌⊎◌, inl, inr}
use Prim.Native.Nat.{ℕ, zero, suc, ◌<◌, ◌≤◌}
use native.Mathlib.Nat.{eq-or-lt_of_le, le_of_suc-le-suc, not-suc-le-zero}
use native.Mathlib.Omega.{arith}
use lib.Dec.{T}
use lib.Ieee.{Float, lt, le, of_bits}
use lib.Ieee.Bits.{is_true}
use Rattle.std.specs.Float.{NotNan}
use Rattle.std.proofs.lemmas.Float.{lt_irrefl, lt_trans, le_of_lt, le_right, le_of_not-lt, lt_of_le_of_lt}
use Rattle.lists.specs.Fold.{fold}
use Rattle.lists.proofs.Folding.{fold-keeps}
use Rattle.numbers.specs.Number.{zero_f}
use Rattle.magnitudes.specs.declared.Pivot.{Pivot}
use Rattle.magnitudes.specs.Pivot.{larger, no_pivot}
use Rattle.magnitudes.specs.Kept.{largest}

abbrev pub Above : Float → Float → Type 0
Above x y = T (lt y x)

abbrev pub Positive : Float → Type 0
Positive x = Above x zero_f

-- a test holds, or does not
pub decided : (b : Bool) → T b ⊎ (T b → ⊥)
decided true = inl tt
decided false = inr (λ h. h)

pub fails : (b : Bool) → (T b → ⊥) → b ≡ false
fails true h = absurd (h tt)
fails false h = refl

number : (x : Float) → Positive x → NotNan x
number x h = le_right zero_f x (le_of_lt zero_f x h)

not_true : (b : Bool) → (T b → ⊥) → T (not b)
not_true true h = absurd (h tt)
not_true false h = tt

-- what a positive number is not above is at least it
pub at_least : (x y : Float) → Positive x → Positive y → (Above x y → ⊥) → T (le x y)
at_least x y p q h = le_of_not-lt y x (number y q) (number x p) (not_true (lt y x) h)

-- of numbers that are not above one another in turn
pub not_above_trans : (x y z : Float) → Positive y → Positive z → (Above x y → ⊥) → (Above y z → ⊥) → Above x z → ⊥
not_above_trans x y z p q h k a = h (lt_of_le_of_lt y z x (at_least y z p q k) a)

-- ---- the largest

pub record Largest (m : ℕ) (f : ℕ → Float) (r : Float) : Type 0 where
  pub none_above : (k : ℕ) → k < m → Above (f k) r → ⊥
  pub one_of : (r ≡ zero_f) ⊎ ((k : ℕ) × (k < m) × (r ≡ f k) × Positive r)

-- below m + 1
upto : (P : ℕ → Type 0) (m : ℕ) → ((k : ℕ) → k < m → P k) → P m → (k : ℕ) → k < suc m → P k
upto P m h p k l = go (eq-or-lt_of_le (le_of_suc-le-suc l))
  where
    go : (k ≡ m) ⊎ (k < m) → P k
    go (inl e) = subst P (sym e) p
    go (inr l) = h k l

-- one number more
next : (m : ℕ) (f : ℕ → Float) (r : Float) → Largest m f r → Largest (suc m) f (cond (lt r (f m)) (f m) r)
next m f r h = go (lt r (f m)) refl
  where
    go : (b : Bool) → lt r (f m) ≡ b → Largest (suc m) f (cond b (f m) r)
    go true e =
        let up : Above (f m) r = subst T (sym e) tt in
        record {
          none_above = upto (λ k. Above (f k) (f m) → ⊥) m (λ k l a. h.none_above k l (lt_trans r (f m) (f k) up a)) (lt_irrefl (f m));
          one_of = inr (m, omega arith, refl, some up h.one_of);
        }
      where
        some : Above (f m) r → (r ≡ zero_f) ⊎ ((k : ℕ) × (k < m) × (r ≡ f k) × Positive r) → Positive (f m)
        some up (inl z) = subst (λ (x : Float). Above (f m) x) z up
        some up (inr (k, l, i, p)) = lt_trans zero_f r (f m) p up
    go false e = record { none_above = upto (λ k. Above (f k) r → ⊥) m h.none_above (λ a. subst T e a); one_of = still h.one_of }
      where
        still : (r ≡ zero_f) ⊎ ((k : ℕ) × (k < m) × (r ≡ f k) × Positive r) → (r ≡ zero_f) ⊎ ((k : ℕ) × (k < suc m) × (r ≡ f k) × Positive r)
        still (inl z) = inl z
        still (inr (k, l, i, p)) = inr (k, omega arith, i, p)

pub largest-is : (m : ℕ) (f : ℕ → Float) → Largest m f (largest m f)
unfolding largest fold
largest-is zero f = record { none_above = λ k l. absurd (not-suc-le-zero l); one_of = inl refl }
largest-is (suc m) f = next m f (largest m f) (largest-is m f)

-- where one of them is above 0, so is the largest
pub positive : (m : ℕ) (f : ℕ → Float) (r : Float) → Largest m f r → (k : ℕ) → k < m → Positive (f k) → Positive r
positive m f r h k l p = go h.one_of
  where
    go : (r ≡ zero_f) ⊎ ((k : ℕ) × (k < m) × (r ≡ f k) × Positive r) → Positive r
    go (inl z) = absurd (h.none_above k l (subst (λ (x : Float). Above (f k) x) (sym z) p))
    go (inr (j, s, i, q)) = q

-- ---- the first of the largest

pub record IsFirst (m : ℕ) (f : ℕ → Float) (k : ℕ) : Type 0 where
  pub inside : k < m
  pub some : Positive (f k)
  pub none_above : (j : ℕ) → j < m → Above (f j) (f k) → ⊥
  pub before : (j : ℕ) → j < k → Positive (f j) → Above (f k) (f j)

abbrev pub First : ℕ → (ℕ → Float) → Type 0
First m f = ((k : ℕ) → k < m → Positive (f k) → ⊥) ⊎ ((k : ℕ) × IsFirst m f k)

pub first-of : (m : ℕ) (f : ℕ → Float) → First m f
first-of zero f = inl (λ k l. absurd (not-suc-le-zero l))
first-of (suc m) f = go (first-of m f)
  where
    none : ((k : ℕ) → k < m → Positive (f k) → ⊥) → Positive (f m) ⊎ (Positive (f m) → ⊥) → First (suc m) f
    none h (inl p) =
        inr (
          m,
          record {
            inside = omega arith;
            some = p;
            none_above = upto (λ j. Above (f j) (f m) → ⊥) m (λ j l a. h j l (lt_trans zero_f (f m) (f j) p a)) (lt_irrefl (f m));
            before = λ j l q. absurd (h j l q);
          },
        )
    none h (inr p) = inl (upto (λ k. Positive (f k) → ⊥) m h p)

    one : (k : ℕ) → IsFirst m f k → Above (f m) (f k) ⊎ (Above (f m) (f k) → ⊥) → First (suc m) f
    one k h (inl up) =
        inr (
          m,
          record {
            inside = omega arith;
            some = lt_trans zero_f (f k) (f m) h.some up;
            none_above = upto (λ j. Above (f j) (f m) → ⊥) m (λ j l a. h.none_above j l (lt_trans (f k) (f m) (f j) up a)) (lt_irrefl (f m));
            before = λ j l q. lt_of_le_of_lt (f j) (f k) (f m) (at_least (f j) (f k) q h.some (h.none_above j l)) up;
          },
        )
    one k h (inr up) = inr (k, record { inside = omega (arith, h.inside); some = h.some; none_above = upto (λ j. Above (f j) (f k) → ⊥) m h.none_above up; before = h.before })

    go : First m f → First (suc m) f
    go (inl h) = none h (decided (lt zero_f (f m)))
    go (inr (k, h)) = one k h (decided (lt (f k) (f m)))

-- ---- the pivot's loop over them

-- not below 0, and below x
abbrev pub Under : Float → Pivot → Type 0
Under x g = T (le zero_f g.best) × Above x g.best

pub under-none : (x : Float) → Positive x → Under x no_pivot
unfolding le of_bits
under-none x h = (tt, h)

module _ (f : ℕ → Float) (u v : ℕ → ℕ) where
  abbrev pub step : ℕ → Pivot → Pivot
  step j g = larger (f j) (u j) (v j) g

  -- nothing is above the pivot
  pub fold-none : (m : ℕ) (g : Pivot) → ((k : ℕ) → k < m → Above (f k) g.best → ⊥) → fold m step g ≡ g
  unfolding larger
  fold-none m g h = fold-keeps step (λ t. t ≡ g) m g refl (λ j t l e. rw e (rw (fails (lt g.best (f j)) (h j l)) refl))

  pub still_under : (x : Float) (j : ℕ) (g : Pivot) → (Positive (f j) → Above x (f j)) → Under x g → Under x (step j g)
  unfolding larger
  still_under x j g h (z, a) = go (lt g.best (f j)) refl
    where
      go : (b : Bool) → lt g.best (f j) ≡ b → Under x (cond b (record { best = f j; p = u j; q = v j }) g)
      go true e =
          let p : Positive (f j) = lt_of_le_of_lt zero_f g.best (f j) z (subst T (sym e) tt) in
          (le_of_lt zero_f (f j) p, h p)
      go false e = (z, a)

  pub fold-first : (m k : ℕ) → IsFirst m f k → (g : Pivot) → Under (f k) g → fold m step g ≡ record { best = f k; p = u k; q = v k }
  unfolding larger fold
  fold-first m k first g start = go m first.inside (omega arith)
    where
      reached : fold (suc k) step g ≡ record { best = f k; p = u k; q = v k }
      reached =
          let w = fold-keeps step (Under (f k)) k g start (λ j t l. still_under (f k) j t (first.before j l)) in
          rw (is_true (lt (fold k step g).best (f k)) w.1) refl

      go : (i : ℕ) → k < i → i ≤ m → fold i step g ≡ record { best = f k; p = u k; q = v k }
      go zero h l = absurd (not-suc-le-zero h)
      go (suc i) h l = again (eq-or-lt_of_le (le_of_suc-le-suc h)) (λ s. go i s (omega arith))
        where
          again : (k ≡ i) ⊎ (k < i) → (k < i → fold i step g ≡ record { best = f k; p = u k; q = v k }) → fold (suc i) step g ≡ record { best = f k; p = u k; q = v k }
          again (inl e) r = subst (λ (x : ℕ). fold (suc x) step g ≡ record { best = f k; p = u k; q = v k }) e reached
          again (inr s) r = ap (step i) (r s) ∙ rw (fails (lt (f k) (f i)) (first.none_above i (omega arith))) refl
