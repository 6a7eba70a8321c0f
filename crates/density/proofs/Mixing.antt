-- The Hermitian part and the mixture, entry by entry. Assumes nothing.
use mathlib.Core.Path.{◌≡◌, sym, ◌∙◌, ap, ap₂}
use mathlib.Core.List.{List}
use Prim.Native.Nat.{ℕ, ◌+◌, ◌*◌, ◌/◌, ◌%◌, ◌<◌}
use native.Mathlib.Nat.{div-add-mod'}
use native.Mathlib.Omega.{arith}
use lib.ListN.{length, get_or, set}
use lib.Seq.{ext_get_or}
use lib.Ieee.{Float, nan}
use Rattle.lists.specs.Build.{build}
use Rattle.lists.specs.Fold.{fold}
use Rattle.lists.proofs.Filling.{Filled, fill_more, fill-all, build-same, get_or-build, length-build}
use Rattle.lists.proofs.Folding.{fold_same, fold_end, build-fold}
use Rattle.numbers.specs.Number.{zero_f, half_f}
use Rattle.numbers.specs.Slice.{at}
use Rattle.complex.specs.declared.Complex.{Complex}
use Rattle.complex.specs.Arithmetic.{plus, times, scaled, conjugate}
use Rattle.entries.specs.Entries.{entries, entry_at, nowhere, matrix}
use Rattle.entries.specs.Laid.{changed, changed_row}
use Rattle.entries.proofs.Pairs.{length-entries, get-entry}
use Rattle.entries.proofs.Laying.{changed-whole, changed-same}
use Rattle.turns.specs.Rotation.{real}
use Rattle.density.specs.Projection.{halved_at, term_at, mixed_at, mixed}
use Rattle.density.specs.Steps.{conjugates, row_added, with_row, with_term}

pub halved_is : (n : ℕ) (e : List Complex) (i j : ℕ) {x y z s r : Complex} → x ≡ entry_at n e i j → y ≡ entry_at n e j i → z ≡ conjugate y → s ≡ plus x z → r ≡ scaled s half_f → r ≡ halved_at n e i j
unfolding halved_at
halved_is n e i j a b c d f = rw (← a, ← b, ← c, ← d) f

-- ---- a column

module _ (n : ℕ) (v : List Complex) (k : ℕ) where
  pub column-more : (j : ℕ) (d u w : List Complex) (x y : Complex) → j < length d → Filled (λ j. conjugate (entry_at n v j k)) d j u → x ≡ entry_at n v j k → y ≡ conjugate x → w ≡ set u j y
      → Filled (λ j. conjugate (entry_at n v j k)) d (j + 1) w
  column-more j d u w x y h f a b c = c ∙ fill_more (λ j. conjugate (entry_at n v j k)) d j u y h f (b ∙ ap conjugate a)

  pub column-all : (j : ℕ) (d u : List Complex) → j ≡ n → length d ≡ n → Filled (λ j. conjugate (entry_at n v j k)) d j u → u ≡ conjugates n v k
  unfolding conjugates
  column-all j d u h l f = fill-all (λ j. conjugate (entry_at n v j k)) d j u (omega arith) f ∙ ap (λ (m : ℕ). build m (λ j. conjugate (entry_at n v j k))) l

-- ---- a row

pub entry-added : (n : ℕ) (x : Complex) (u : List Complex) (i j : ℕ) (e d : List Complex) (s y t z : Complex) → s ≡ entry_at n e i j → y ≡ get_or u j nowhere → t ≡ times x y → z ≡ plus s t
    → d ≡ set e (i * n + j) z → d ≡ changed n (row_added x u) i j e
entry-added n x u i j e d s y t z a b c f g = rw (← a, ← b, ← c, ← f) g

-- ---- a term

module _ (n : ℕ) (v : List Complex) (k : ℕ) (p : Float) where
  abbrev pub term_added : ℕ → ℕ → Complex → Complex
  term_added i j sum = plus sum (term_at n v k p i j)

  -- row i of it
  pub row-added : (u : List Complex) (i : ℕ) (x y : Complex) (e d : List Complex) → u ≡ conjugates n v k → x ≡ entry_at n v i k → y ≡ scaled x p → d ≡ with_row n y u i e → d ≡ changed_row n term_added i e
  unfolding with_row conjugates term_at
  row-added u i x y e d a b c f =
      f ∙ changed-same n i (row_added y u) term_added e
      (λ j z h.
      ap (λ (t : Complex). plus z t)
      (rw (c, b) (ap (times (scaled (entry_at n v i k) p)) (ap (λ (l : List Complex). get_or l j nowhere) a ∙ get_or-build nowhere n j _ h))))

  pub term-added : (i : ℕ) (e d : List Complex) → i ≡ n → length e ≡ n * n → d ≡ fold i (changed_row n term_added) e → d ≡ with_term n v k p e
  unfolding with_term
  term-added i e d h l f = changed-whole n n term_added d e l (fold_end (changed_row n term_added) i n e d h f)

-- ---- all terms

abbrev pub terms_added : ℕ → List Complex → List Float → ℕ → List Complex → List Complex
terms_added n v p k e = with_term n v k (at p k) e

pub zeros : (m : ℕ) (l : List Float) → length l ≡ 2 * m → entries (build (length l) (λ _. zero_f)) ≡ build m (λ _. real zero_f)
zeros m l h =
    let z = build (length l) (λ _. zero_f) in
    let q : length z ≡ 2 * m = length-build (length l) (λ _. zero_f) ∙ h in
    let a : length (entries z) ≡ m = length-entries m z q in
    ext_get_or nowhere (entries z) (build m (λ _. real zero_f)) (a ∙ sym (length-build m (λ _. real zero_f)))
    (λ k b.
    get-entry z k (omega arith)
    ∙ ap₂ both (get_or-build nan (length l) (2 * k) (λ _. zero_f) (omega arith)) (get_or-build nan (length l) (2 * k + 1) (λ _. zero_f) (omega arith))
    ∙ sym (get_or-build nowhere m k (λ _. real zero_f) (omega arith)))
  where
    both : Float → Float → Complex
    both x y = record { re = x; im = y }

pub mixed-whole : (n : ℕ) (v : List Complex) (p : List Float) (k : ℕ) (e d : List Complex) → k ≡ n → e ≡ build (n * n) (λ _. real zero_f) → d ≡ fold k (terms_added n v p) e → d ≡ mixed n v p
unfolding mixed mixed_at matrix with_term
mixed-whole n v p k e d h z f =
    fold_end (terms_added n v p) k n e d h f
    ∙ ap (fold n (terms_added n v p)) z
    ∙ fold_same (terms_added n v p) (λ k e. build (n * n) (λ c. plus (get_or e c nowhere) (term_at n v k (at p k) (c / n) (c % n)))) n (build (n * n) (λ _. real zero_f))
    (λ k t _. build-same (n * n) _ _ (λ c _. ap (λ (q : ℕ). plus (get_or t q nowhere) (term_at n v k (at p k) (c / n) (c % n))) (div-add-mod' c n)))
    ∙ build-fold nowhere (n * n) n (λ k c sum. plus sum (term_at n v k (at p k) (c / n) (c % n))) (λ _. real zero_f)
