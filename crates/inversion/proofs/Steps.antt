-- Kept rows keep the matrix beside the identity, step by step. Assumes nothing.
use mathlib.Core.Path.{◌≡◌, refl, sym, ◌∙◌, ap, ap₂, subst}
use mathlib.Core.Bool.{Bool, true, false, cond}
use mathlib.Core.List.{List}
use Prim.Native.Nat.{ℕ, ◌+◌, ◌-◌, ◌*◌, ◌≤◌, ◌<◌}
use native.Mathlib.Nat.{le_refl}
use native.Mathlib.Omega.{arith}
use lib.Dec.{eqb, ltb}
use lib.ListN.{length, get_or}
use lib.Ieee.{Float}
use borrow.Author.Tests.{eqb-true, eqb-false, eq-eqb, ne_eqb, ltb-true, ltb-false, lt-ltb, le-ltb}
use Rattle.lists.specs.Build.{build}
use Rattle.lists.proofs.Filling.{get_or-build}
use Rattle.lists.proofs.Choices.{yes, no}
use Rattle.numbers.specs.Number.{one_f, ◌+ᶠ◌, ◌-ᶠ◌, ◌*ᶠ◌, ◌/ᶠ◌}
use Rattle.matrix.specs.Product.{cell}
use Rattle.elimination.specs.Rows.{cleared_by}
use Rattle.elimination.specs.Kept.{kept_cleared}
use Rattle.elimination.proofs.Cleared.{before, new_entry, length-cleared, cleared-entry}
use Rattle.elimination.proofs.Kept.{length-kept-cleared, kept_entry, zero-twice}
use Rattle.inversion.specs.Kept.{relabelled, right_entry, Vacant, Keeps}
use Rattle.inversion.proofs.Places.{before-within, before-from, before-other, relabelled-within, relabelled-own, relabelled-pivot, relabelled-later, one-moved, one-came}
use Rattle.inversion.proofs.Zeros.{Empty, taken, less-vacant, one_less}

-- two columns, cleared: the same quotients, and in rows other than k the same entries before
same_new : (q r : ℕ → Float) (x y : ℕ → ℕ → Float) (k p i a b : ℕ) → q a ≡ r b → ((i ≡ k → ⊥) → x (before k p i) a ≡ y (before k p i) b) → ((i ≡ k → ⊥) → x (before k p i) k ≡ y (before k p i) k)
    → new_entry q x k p i a ≡ new_entry r y k p i b
same_new q r x y k p i a b e f g = go (eqb i k) refl
  where
    go : (t : Bool) → eqb i k ≡ t
        → cond t (q a) (x (before k p i) a -ᶠ x (before k p i) k *ᶠ q a) ≡ cond t (r b) (y (before k p i) b -ᶠ y (before k p i) k *ᶠ r b)
    go true t = e
    go false t =
        let o = eqb-false i k t in
        ap₂ (λ (u v : Float). u -ᶠ v *ᶠ q a) (f o) (g o) ∙ ap (λ (v : Float). y (before k p i) b -ᶠ y (before k p i) k *ᶠ v) e

module _ (n k p : ℕ) (t : List ℕ) (u m : List Float) (kn : k < n) (kp : k ≤ p) (pn : p < n) (h : Keeps n k t u m) where
  fu : n * (2 * n + 2) ≤ length u
  fu = omega (arith, h.kept)

  fm : n * (2 * n) ≤ length m
  fm = omega (arith, h.full)

  -- the entries and quotients of the kept rows and of the matrix
  abbrev U : ℕ → ℕ → Float
  U i z = cell (2 * n + 2) u i z

  abbrev M : ℕ → ℕ → Float
  M i z = cell (2 * n) m i z

  abbrev QU : ℕ → Float
  QU z = cond (eqb (z - k) n) (U p z +ᶠ one_f) (U p z) /ᶠ U p k

  abbrev QM : ℕ → Float
  QM z = M p z /ᶠ M p k

  new_u : (i z : ℕ) → i < n → k ≤ z → z < k + n + 2 → cell (2 * n + 2) (kept_cleared n k p u) i z ≡ new_entry QU U k p i z
  new_u i z a b c = kept_entry n k p u kn pn fu i z a b c

  new_m : (i z : ℕ) → i < n → z < 2 * n → cell (2 * n) (cleared_by n (2 * n) k p m) i z ≡ new_entry QM M k p i z
  new_m i z a b = cleared-entry n (2 * n) k p m kn pn (omega arith) fm i z a b

  -- column k of the left half, and the pivot
  factor : (i : ℕ) → i < n → U (before k p i) k ≡ M (before k p i) k
  factor i il = h.left (before k p i) k (before-within k p n i kn il) (le_refl k) kn

  pivot : U p k ≡ M p k
  pivot = h.left p k pn (le_refl k) kn

  -- quotients of columns that are not the new one
  plain : (z : ℕ) → (z - k ≡ n → ⊥) → QU z ≡ U p z /ᶠ M p k
  plain z o = ap₂ (λ (b : Bool) (d : Float). cond b (U p z +ᶠ one_f) (U p z) /ᶠ d) (ne_eqb (z - k) n o) pivot

  new-left : (i j : ℕ) → i < n → k + 1 ≤ j → j < n → cell (2 * n + 2) (kept_cleared n k p u) i j ≡ cell (2 * n) (cleared_by n (2 * n) k p m) i j
  new-left i j il kj jn =
      new_u i j il (omega arith) (omega arith)
      ∙ same_new QU QM U M k p i j j
      (plain j (λ e. omega arith) ∙ ap (λ (x : Float). x /ᶠ M p k) (h.left p j pn (omega arith) jn))
      (λ _. h.left (before k p i) j (before-within k p n i kn il) (omega arith) jn)
      (λ _. factor i il)
      ∙ sym (new_m i j il (omega arith))

  -- what a row's zero becomes
  lost : ℕ → Float
  lost i = U (before k p i) k *ᶠ QU (n + k + 1)

  lost-empty : (i : ℕ) → Empty (lost i)
  unfolding lost
  lost-empty i =
      subst (λ (x : Float). Empty (U (before k p i) k *ᶠ x)) (sym (plain (n + k + 1) (λ e. omega arith) ∙ ap (λ (x : Float). x /ᶠ M p k) (h.twice p pn)))
      (taken (U (before k p i) k) (U p (n + k)) (M p k) (h.vacant p kp pn))

  new-zero : (i : ℕ) → i < n → (i ≡ k → ⊥) → cell (2 * n + 2) (kept_cleared n k p u) i (n + k + 1) ≡ U (before k p i) (n + k) -ᶠ lost i
  unfolding lost
  new-zero i il o =
      new_u i (n + k + 1) il (omega arith) (omega arith)
      ∙ sym (no _ (ne_eqb i k o) refl)
      ∙ ap (λ (x : Float). x -ᶠ U (before k p i) k *ᶠ QU (n + k + 1)) (h.twice (before k p i) (before-within k p n i kn il))

  new-vacant : (i : ℕ) → k + 1 ≤ i → i < n → Vacant (cell (2 * n + 2) (kept_cleared n k p u) i (n + k + 1))
  new-vacant i ki il =
      subst Vacant (sym (new-zero i il (λ e. omega arith)))
      (less-vacant (lost i) (U (before k p i) (n + k)) (h.vacant (before k p i) (before-from k p i (omega arith)) (before-within k p n i kn il)) (lost-empty i))

  -- ---- a column c of the right half, with the place q
  module _ (i c : ℕ) (il : i < n) (cn : c < n) where
    q : ℕ
    q = get_or t c 0

    right-was : (r : ℕ) → r < n → M r (n + c) ≡ right_entry n k u q r
    unfolding q
    right-was r rl = h.right r c rl cn

    -- it was filled before
    was-filled : q < k → (r : ℕ) → r < n → M r (n + c) ≡ U r (n + q)
    unfolding right_entry
    was-filled l r rl = right-was r rl ∙ sym (yes _ (lt-ltb q k l))

    filled : q < k → cell (2 * n) (cleared_by n (2 * n) k p m) i (n + c) ≡ cell (2 * n + 2) (kept_cleared n k p u) i (n + q)
    filled l =
        new_m i (n + c) il (omega arith)
        ∙ sym
        (new_u i (n + q) il (omega arith) (omega arith)
        ∙ same_new QU QM U M k p i (n + q) (n + c)
        (plain (n + q) (λ e. omega arith) ∙ ap (λ (x : Float). x /ᶠ M p k) (sym (was-filled l p pn)))
        (λ _. sym (was-filled l (before k p i) (before-within k p n i kn il)))
        (λ _. factor i il))

    -- it was still the identity's
    was-one : k ≤ q → (r : ℕ) → r < n → r ≡ q → M r (n + c) ≡ U r (n + k) +ᶠ one_f
    unfolding right_entry
    was-one l r rl e = right-was r rl ∙ sym (no _ (le-ltb q k l) (yes _ (eq-eqb r q e)))

    was-zero : k ≤ q → (r : ℕ) → r < n → (r ≡ q → ⊥) → M r (n + c) ≡ U r (n + k)
    unfolding right_entry
    was-zero l r rl o = right-was r rl ∙ sym (no _ (le-ltb q k l) (no _ (ne_eqb r q o) refl))

    -- the pivot's column is filled now
    now-filled : q ≡ p → cell (2 * n) (cleared_by n (2 * n) k p m) i (n + c) ≡ cell (2 * n + 2) (kept_cleared n k p u) i (n + k)
    now-filled e =
        let kq : k ≤ q = subst (λ (x : ℕ). k ≤ x) (sym e) kp in
        new_m i (n + c) il (omega arith)
        ∙ sym
        (new_u i (n + k) il (omega arith) (omega arith)
        ∙ same_new QU QM U M k p i (n + k) (n + c)
        (ap₂ (λ (b : Bool) (d : Float). cond b (U p (n + k) +ᶠ one_f) (U p (n + k)) /ᶠ d) (eq-eqb (n + k - k) n (omega arith)) pivot
        ∙ ap (λ (x : Float). x /ᶠ M p k) (sym (was-one kq p pn (sym e))))
        (λ o. sym (was-zero kq (before k p i) (before-within k p n i kn il) (λ f. before-other k p i o (f ∙ e))))
        (λ _. factor i il))

    -- others stay the identity's
    module _ (kq : k ≤ q) (o : q ≡ p → ⊥) where
      later-quotient : QU (n + k + 1) ≡ QM (n + c)
      later-quotient =
          plain (n + k + 1) (λ e. omega arith) ∙ ap (λ (x : Float). x /ᶠ M p k) (h.twice p pn ∙ sym (was-zero kq p pn (λ e. o (sym e))))

      stays-zero : ((i ≡ k → ⊥) → before k p i ≡ q → ⊥) → cell (2 * n) (cleared_by n (2 * n) k p m) i (n + c) ≡ cell (2 * n + 2) (kept_cleared n k p u) i (n + k + 1)
      stays-zero f =
          new_m i (n + c) il (omega arith)
          ∙ sym
          (new_u i (n + k + 1) il (omega arith) (omega arith)
          ∙ same_new QU QM U M k p i (n + k + 1) (n + c)
          later-quotient
          (λ g. h.twice (before k p i) (before-within k p n i kn il) ∙ sym (was-zero kq (before k p i) (before-within k p n i kn il) (f g)))
          (λ _. factor i il))

      stays-one : (i ≡ k → ⊥) → before k p i ≡ q → cell (2 * n) (cleared_by n (2 * n) k p m) i (n + c) ≡ cell (2 * n + 2) (kept_cleared n k p u) i (n + k + 1) +ᶠ one_f
      unfolding lost
      stays-one g e =
          let s = before k p i in
          let sn : s < n = before-within k p n i kn il in
          let ks : k ≤ s = subst (λ (x : ℕ). k ≤ x) (sym e) kq in
          new_m i (n + c) il (omega arith)
          ∙ sym (no _ (ne_eqb i k g) refl)
          ∙ ap₂ (λ (x y : Float). x -ᶠ y *ᶠ QM (n + c)) (was-one kq s sn e) (sym (factor i il))
          ∙ ap (λ (y : Float). (U s (n + k) +ᶠ one_f) -ᶠ U s k *ᶠ y) (sym later-quotient)
          ∙ one_less (lost i) (U s (n + k)) (h.vacant s ks sn) (lost-empty i)
          ∙ ap (λ (x : Float). x +ᶠ one_f) (sym (new-zero i il g))

    abbrev moved : ℕ
    moved = relabelled k p q

    -- the column's entry i, from the rows after the step
    new-right : cell (2 * n) (cleared_by n (2 * n) k p m) i (n + c) ≡ right_entry n (k + 1) (kept_cleared n k p u) moved i
    unfolding right_entry
    new-right = go (ltb q k) refl (eqb q p) refl
      where
        next : n + (k + 1) ≡ n + k + 1
        next = omega arith

        go : (a : Bool) → ltb q k ≡ a → (b : Bool) → eqb q p ≡ b
            → cell (2 * n) (cleared_by n (2 * n) k p m) i (n + c) ≡ right_entry n (k + 1) (kept_cleared n k p u) moved i
        go true a b _ =
            let l = ltb-true q k a in
            let e : moved ≡ q = relabelled-own k p q (λ f. omega arith) (λ f. omega arith) in
            filled l ∙ subst (λ (x : ℕ). cell (2 * n + 2) (kept_cleared n k p u) i (n + q) ≡ right_entry n (k + 1) (kept_cleared n k p u) x i) (sym e) (yes _ (lt-ltb q (k + 1) (omega arith)))
        go false a true b =
            let f = eqb-true q p b in
            let e : moved ≡ k = relabelled-pivot k p q f in
            now-filled f ∙ subst (λ (x : ℕ). cell (2 * n + 2) (kept_cleared n k p u) i (n + k) ≡ right_entry n (k + 1) (kept_cleared n k p u) x i) (sym e) (yes _ (lt-ltb k (k + 1) (omega arith)))
        go false a false b = ones (eqb i moved) refl
          where
            kq : k ≤ q
            kq = ltb-false q k a

            o : q ≡ p → ⊥
            o = eqb-false q p b

            later : ltb moved (k + 1) ≡ false
            later = le-ltb moved (k + 1) (let l = relabelled-later k p q kq kp o in omega arith)

            ones : (d : Bool) → eqb i moved ≡ d → cell (2 * n) (cleared_by n (2 * n) k p m) i (n + c) ≡ right_entry n (k + 1) (kept_cleared n k p u) moved i
            ones true d =
                let e = eqb-true i moved d in
                stays-one kq o (λ f. let l = relabelled-later k p q kq kp o in omega arith) (one-moved k p q kq kp o i e)
                ∙ ap (λ (z : ℕ). cell (2 * n + 2) (kept_cleared n k p u) i z +ᶠ one_f) (sym next)
                ∙ no _ later (yes _ d)
            ones false d =
                stays-zero kq o (λ g f. eqb-false i moved d (one-came k p q kq kp o i g f))
                ∙ ap (cell (2 * n + 2) (kept_cleared n k p u) i) (sym next)
                ∙ no _ later (no _ d refl)

  -- the whole step
  pub keeps_on : Keeps n (k + 1) (build n (λ c. relabelled k p (get_or t c 0))) (kept_cleared n k p u) (cleared_by n (2 * n) k p m)
  unfolding q
  keeps_on = record {
    kept = length-kept-cleared n k p u kn pn fu ∙ h.kept;
    full = length-cleared n (2 * n) k p m kn pn (omega arith) fm ∙ h.full;
    within = λ c cn. subst (λ (x : ℕ). x < n) (sym (get_or-build 0 n c _ cn)) (relabelled-within k p (get_or t c 0) n kn pn (h.within c cn));
    left = new-left;
    right = λ i c il cn. new-right i c il cn ∙ ap (λ (x : ℕ). right_entry n (k + 1) (kept_cleared n k p u) x i) (sym (get_or-build 0 n c _ cn));
    twice = λ i il.
        (let a : n + (k + 1) + 1 ≡ k + n + 2 = omega arith in
        let b : n + (k + 1) ≡ k + n + 1 = omega arith in
        ap (cell (2 * n + 2) (kept_cleared n k p u) i) a ∙ zero-twice n k p u kn pn fu i il ∙ sym (ap (cell (2 * n + 2) (kept_cleared n k p u) i) b));
    vacant = λ i ki il. subst (λ (z : ℕ). Vacant (cell (2 * n + 2) (kept_cleared n k p u) i z)) (let e : n + k + 1 ≡ n + (k + 1) = omega arith in e) (new-vacant i ki il);
  }
