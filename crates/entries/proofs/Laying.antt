-- A matrix changed or laid entry by entry, row by row. Assumes nothing.
use mathlib.Core.Path.{◌≡◌, refl, sym, ◌∙◌, ap}
use mathlib.Core.Bool.{Bool, true, false, cond, ◌&&◌}
use mathlib.Core.Logic.{⊎_elim}
use mathlib.Core.List.{List}
use Prim.Native.Nat.{ℕ, zero, suc, ◌+◌, ◌*◌, ◌<◌, ◌≤◌}
use native.Mathlib.Nat.{eq-or-lt_of_le}
use native.Mathlib.Omega.{arith}
use lib.Dec.{eqb, ltb}
use lib.ListN.{length, set, length-set}
use borrow.Author.Tests.{eqb-true, eq-eqb, eqb-false, lt-ltb, le-ltb, ltb-true, ltb-false}
use Rattle.lists.specs.Fold.{fold}
use Rattle.lists.proofs.Folding.{fold_same}
use Rattle.complex.specs.declared.Complex.{Complex}
use Rattle.entries.specs.Entries.{entry_at, matrix}
use Rattle.entries.specs.Laid.{changed, changed_row, laid, laid_row}
use Rattle.entries.proofs.Matrices.{at_set, is-matrix}

-- an entry is laid
pub put-laid : (n : ℕ) (f : ℕ → ℕ → Complex) (i j : ℕ) (e d : List Complex) (z : Complex) → d ≡ set e (i * n + j) z → z ≡ f i j → d ≡ laid n f i j e
put-laid n f i j e d z h g = rw g at h

-- i is below k + 1 where it is k or below k
pub below_next : (i k : ℕ) → eqb i k ≡ false → ltb i (suc k) ≡ ltb i k
below_next i k e = go (ltb i k) refl
  where
    go : (b : Bool) → ltb i k ≡ b → ltb i (suc k) ≡ b
    go true h = let l : i < k = ltb-true i k h in lt-ltb i (suc k) (omega arith)
    go false h =
        let l : k ≤ i = ltb-false i k h in
        le-ltb i (suc k) (⊎_elim (λ (q : k ≡ i). absurd (eqb-false i k e (sym q))) (λ (q : k < i). q) (eq-or-lt_of_le l))

module _ (r n : ℕ) (g : ℕ → ℕ → Complex → Complex) where
  length_some : (i k : ℕ) (e : List Complex) → length (fold k (changed n g i) e) ≡ length e
  unfolding fold
  length_some i zero e = refl
  length_some i (suc k) e = simp length-set (length_some i k e)

  -- k entries of row p
  at_some : (p k : ℕ) (e : List Complex) → length e ≡ r * n → p < r → k ≤ n → (i j : ℕ) → j < n
      → entry_at n (fold k (changed n g p) e) i j ≡ cond (eqb i p && ltb j k) (g i j (entry_at n e i j)) (entry_at n e i j)
  unfolding fold
  at_some p zero e l h u i j v = rw (le-ltb j 0 (omega arith)) (none (g i j (entry_at n e i j)) (entry_at n e i j) (eqb i p))
    where
      none : (x y : Complex) (b : Bool) → y ≡ cond (b && false) x y
      none x y true = refl
      none x y false = refl
  at_some p (suc k) e l h u i j v =
      let s = fold k (changed n g p) e in
      let still : entry_at n s p k ≡ entry_at n e p k = at_some p k e l h (omega arith) p k u ∙ rw (eq-eqb p p refl, le-ltb k k (omega arith)) in
      at_set r n s p k i j (g p k (entry_at n s p k)) _ (length_some p k e ∙ l) h u v (at_some p k e l h (omega arith) i j v)
      ∙ ap (λ (z : Complex). cond (eqb i p && eqb j k) (g p k z) (cond (eqb i p && ltb j k) (g i j (entry_at n e i j)) (entry_at n e i j))) still
      ∙ go (eqb i p) (eqb j k) refl refl
    where
      go : (x y : Bool) → eqb i p ≡ x → eqb j k ≡ y
          → cond (eqb i p && eqb j k) (g p k (entry_at n e p k)) (cond (eqb i p && ltb j k) (g i j (entry_at n e i j)) (entry_at n e i j))
          ≡ cond (eqb i p && ltb j (suc k)) (g i j (entry_at n e i j)) (entry_at n e i j)
      go true true x y =
          let a : i ≡ p = eqb-true i p x in
          let b : j ≡ k = eqb-true j k y in
          rw (x, y, lt-ltb j (suc k) (omega arith), a, b)
      go true false x y = rw (x, y, below_next j k y)
      go false y x z = rw x

  length-rows : (k : ℕ) (e : List Complex) → length (fold k (changed_row n g) e) ≡ length e
  unfolding fold changed_row
  length-rows zero e = refl
  length-rows (suc k) e = length_some k n (fold k (changed_row n g) e) ∙ length-rows k e

  at_rows : (k : ℕ) (e : List Complex) → length e ≡ r * n → k ≤ r → (i j : ℕ) → i < r → j < n
      → entry_at n (fold k (changed_row n g) e) i j ≡ cond (ltb i k) (g i j (entry_at n e i j)) (entry_at n e i j)
  unfolding fold changed_row
  at_rows zero e l u i j h v = rw (le-ltb i 0 (omega arith))
  at_rows (suc k) e l u i j h v =
      at_some k n (fold k (changed_row n g) e) (length-rows k e ∙ l) u (omega arith) i j v ∙ go (eqb i k) refl (at_rows k e l (omega arith) i j h v)
    where
      go : (b : Bool) → eqb i k ≡ b → entry_at n (fold k (changed_row n g) e) i j ≡ cond (ltb i k) (g i j (entry_at n e i j)) (entry_at n e i j)
          → cond (eqb i k && ltb j n) (g i j (entry_at n (fold k (changed_row n g) e) i j)) (entry_at n (fold k (changed_row n g) e) i j) ≡ cond (ltb i (suc k)) (g i j (entry_at n e i j)) (entry_at n e i j)
      go true b q =
          let s : entry_at n (fold k (changed_row n g) e) i j ≡ entry_at n e i j = q ∙ rw (le-ltb i k (omega (arith, eqb-true i k b))) in
          rw (b, lt-ltb j n v, lt-ltb i (suc k) (omega (arith, eqb-true i k b)), s)
      go false b q = rw (b, below_next i k b) q

  -- all rows are changed
  pub changed-whole : (a e : List Complex) → length e ≡ r * n → a ≡ fold r (changed_row n g) e → a ≡ matrix r n (λ i j. g i j (entry_at n e i j))
  changed-whole a e l h = h ∙ is-matrix r n (fold r (changed_row n g) e) (λ i j. g i j (entry_at n e i j)) (length-rows r e ∙ l) (λ i j u v. at_rows r e l (omega arith) i j u v ∙ rw (lt-ltb i r u))

-- all rows are laid
pub laid-whole : (r n : ℕ) (f : ℕ → ℕ → Complex) (a e : List Complex) → length e ≡ r * n → a ≡ fold r (laid_row n f) e → a ≡ matrix r n f
unfolding changed_row laid_row
laid-whole r n f a e l h = changed-whole r n (λ i j _. f i j) a e l h

-- two changes that do the same to row i
pub changed-same : (n i : ℕ) (g h : ℕ → ℕ → Complex → Complex) (e : List Complex) → ((j : ℕ) (z : Complex) → j < n → g i j z ≡ h i j z) → changed_row n g i e ≡ changed_row n h i e
unfolding changed_row
changed-same n i g h e same = fold_same (changed n g i) (changed n h i) n e (λ j t l. ap (set t (i * n + j)) (same j (entry_at n t i j) l))
