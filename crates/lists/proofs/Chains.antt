-- What iterator chains give, as std's `fold`, `map`, `zip` and the like say it of lists, in the words of specs/: `build` and `fold`, by index.
-- A chain's items are a built list (`build-..`), and a fold over a built list is a loop (`fold-build`). Assumes nothing.
use mathlib.Core.Path.{◌≡◌, refl, sym, ◌∙◌, ap}
use mathlib.Core.Bool.{Bool, true, false, ◌&&◌}
use mathlib.Core.List.{List, [], ◌∷◌, map, reverse}
use Prim.Native.Nat.{ℕ, zero, suc, ◌-◌, ◌≤◌, ◌<◌, min}
use native.Mathlib.Nat.{zero-add}
use native.Mathlib.Numerals.{add-one}
use native.Mathlib.Omega.{arith}
use lib.ListN.{length, get_or, take, replicate}
use lib.Seq.{ext_get_or}
use Rattle.std.specs.List.{zip, enumerate_from, range_with_len, list_all}
use Rattle.std.specs.List.{fold as chain}
use Rattle.std.proofs.lemmas.List.{length-map, length-replicate, length-reverse, get_or-map, get_or-replicate, get_or-reverse}
use Rattle.std.proofs.lemmas.List.Sums.{fold-append}
use Rattle.std.proofs.lemmas.List.FromFn.{length-enumerate_from, get_or-enumerate_from, length-range_with_len, get_or-range_with_len}
use Rattle.std.proofs.lemmas.Slice.Zip.{length-zip, get_or-zip}
use Rattle.lists.specs.Build.{build}
use Rattle.lists.specs.Fold.{fold}
use Rattle.lists.proofs.Filling.{length-build, build-none, build-suc, get_or-build, build-all, build-front}

-- ---- the items of a chain, entry by entry

-- a list with those entries
built : {A : Type 0} (z : A) (n : ℕ) (f : ℕ → A) (l : List A) → length l ≡ n → ((i : ℕ) → i < n → get_or l i z ≡ f i) → l ≡ build n f
built z n f l h e =
    ext_get_or z l (build n f) (h ∙ sym (length-build n f)) (λ i p. let q : i < n = omega arith in e i q ∙ sym (get_or-build z n i f q))

module _ {A B : Type 0} where
  -- `xs.iter().map(f)`
  pub build-map : (z : A) (f : A → B) (xs : List A) → map f xs ≡ build (length xs) (λ i. f (get_or xs i z))
  build-map z f xs = built (f z) (length xs) (λ i. f (get_or xs i z)) (map f xs) (length-map xs f) (λ i h. get_or-map f xs i z (f z) h)

  -- `xs.iter().zip(ys)`, as long as the shorter of the two
  pub build-zip : (x : A) (y : B) (n : ℕ) (xs : List A) (ys : List B) → min (length xs) (length ys) ≡ n → zip xs ys ≡ build n (λ i. (get_or xs i x, get_or ys i y))
  build-zip x y n xs ys h =
      built (x, y) n (λ i. (get_or xs i x, get_or ys i y)) (zip xs ys) (length-zip xs ys ∙ h)
      (λ i l. get_or-zip xs ys i (x, y) (omega arith) (omega arith))

module _ {A : Type 0} where
  -- `xs.iter().enumerate()`
  pub build-enumerate : (z : A) (xs : List A) → enumerate_from 0 xs ≡ build (length xs) (λ i. (i, get_or xs i z))
  build-enumerate z xs =
      built (0, z) (length xs) (λ i. (i, get_or xs i z)) (enumerate_from 0 xs) (length-enumerate_from 0 xs)
      (λ i h. get_or-enumerate_from 0 xs i (0, z) h ∙ rw zero-add)

  -- `xs.iter().rev()`
  pub build-reverse : (z : A) (xs : List A) → reverse xs ≡ build (length xs) (λ i. get_or xs (length xs - 1 - i) z)
  build-reverse z xs =
      built z (length xs) (λ i. get_or xs (length xs - 1 - i) z) (reverse xs) (length-reverse xs) (λ i h. get_or-reverse xs i z h)

  -- `xs.fill(v)`
  pub build-replicate : (n : ℕ) (v : A) → replicate n v ≡ build n (λ _. v)
  build-replicate n v = built v n (λ _. v) (replicate n v) (length-replicate n v) (λ i h. get_or-replicate n i v v h)

  -- each entry of a built list put through g
  pub map-build : {B : Type 0} (g : A → B) (n : ℕ) (f : ℕ → A) → map g (build n f) ≡ build n (λ i. g (f i))
  map-build g n f =
      built (g (f 0)) n (λ i. g (f i)) (map g (build n f)) (length-map (build n f) g ∙ length-build n f)
      (λ i h. get_or-map g (build n f) i (f 0) (g (f 0)) (omega (arith, length-build n f)) ∙ ap g (get_or-build (f 0) n i f h))

-- the numbers from 0 to n - 1
pub build-range : (n : ℕ) → range_with_len 0 n ≡ build n (λ i. i)
build-range n = built 0 n (λ i. i) (range_with_len 0 n) (length-range_with_len 0 n) (λ i h. get_or-range_with_len 0 n i 0 h ∙ zero-add i)

-- ---- a chain's `fold` as a loop

module _ {A S : Type 0} (f : S → A → S) (s : S) where
  -- over a built list
  pub fold-build : (n : ℕ) (g : ℕ → A) → chain f s (build n g) ≡ fold n (λ i t. f t (g i)) s
  unfolding fold
  fold-build zero g = rw build-none
  fold-build (suc n) g = ap (chain f s) (ap (λ (k : ℕ). build k g) (sym (add-one n)) ∙ build-suc n g) ∙ fold-append f s (build n g) (g n ∷ []) ∙ ap (λ (t : S). f t (g n)) (fold-build n g)

  -- over a whole list: `xs.iter().fold(s, f)`
  pub fold-list : (z : A) (xs : List A) → chain f s xs ≡ fold (length xs) (λ i t. f t (get_or xs i z)) s
  fold-list z xs = ap (chain f s) (sym (build-all z xs)) ∙ fold-build (length xs) (λ i. get_or xs i z)

  -- over the first n entries: `xs[..n].iter().fold(s, f)`
  pub fold-front : (z : A) (n : ℕ) (xs : List A) → n ≤ length xs → chain f s (take n xs) ≡ fold n (λ i t. f t (get_or xs i z)) s
  fold-front z n xs h = ap (chain f s) (sym (build-front z n xs h)) ∙ fold-build n (λ i. get_or xs i z)

-- over two lists, as long as the shorter: `xs.iter().zip(ys).fold(s, f)`
pub fold-zip : {A B S : Type 0} (f : S → A × B → S) (s : S) (x : A) (y : B) (n : ℕ) (xs : List A) (ys : List B) → min (length xs) (length ys) ≡ n
    → chain f s (zip xs ys) ≡ fold n (λ i t. f t (get_or xs i x, get_or ys i y)) s
fold-zip f s x y n xs ys h = ap (chain f s) (build-zip x y n xs ys h) ∙ fold-build f s n (λ i. (get_or xs i x, get_or ys i y))

-- over the entries with their indices: `xs.iter().enumerate().fold(s, f)`
pub fold-enumerate : {A S : Type 0} (f : S → ℕ × A → S) (s : S) (z : A) (xs : List A) → chain f s (enumerate_from 0 xs) ≡ fold (length xs) (λ i t. f t (i, get_or xs i z)) s
fold-enumerate f s z xs = ap (chain f s) (build-enumerate z xs) ∙ fold-build f s (length xs) (λ i. (i, get_or xs i z))

-- over the numbers from 0 to n - 1: `(0..n).fold(s, f)`
pub fold-range : {S : Type 0} (f : S → ℕ → S) (s : S) (n : ℕ) → chain f s (range_with_len 0 n) ≡ fold n (λ i t. f t i) s
fold-range f s n = ap (chain f s) (build-range n) ∙ fold-build f s n (λ i. i)

-- whether all entries pass, as a chain without a branch finds it: `xs.iter().fold(true, |all, x| all & p(*x))`
pub fold-all : {A : Type 0} (p : A → Bool) (a : Bool) (xs : List A) → chain (λ b x. b && p x) a xs ≡ (a && list_all p xs)
fold-all p true [] = refl
fold-all p false [] = refl
fold-all p true (x ∷ xs) = fold-all p (p x) xs
fold-all p false (x ∷ xs) = fold-all p false xs
