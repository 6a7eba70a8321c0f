-- Lists put through a function. Assumes nothing.
use Prim.Native.Nat.{ℕ, zero, suc, ◌<◌}
use mathlib.Core.Path.{◌≡◌, refl, sym, ap, ◌∙◌}
use mathlib.Core.List.{List, [], ◌∷◌, map}
use native.Mathlib.Nat.{not-suc-le-zero}
use native.Mathlib.Omega.{arith}
use lib.ListN.{length, get_or}
use lib.Seq.{ext_get_or}
use Rattle.lists.specs.Build.{build}
use Rattle.lists.proofs.Filling.{length-build, get_or-build}

module _ {A B : Type 0} (f : A → B) where
  pub length-map : (l : List A) → length (map f l) ≡ length l
  length-map [] = refl
  length-map (x ∷ l) = ap suc (length-map l)

  get_or-map : (a : A) (b : B) (l : List A) (i : ℕ) → i < length l → get_or (map f l) i b ≡ f (get_or l i a)
  get_or-map a b [] i h = absurd (not-suc-le-zero h)
  get_or-map a b (x ∷ l) zero h = refl
  get_or-map a b (x ∷ l) (suc i) h = get_or-map a b l i (omega arith)

  -- such a list, built entry by entry
  pub build-map : (a : A) (b : B) (l : List A) → build (length l) (λ i. f (get_or l i a)) ≡ map f l
  build-map a b l =
      let n = length l in
      ext_get_or b (build n (λ i. f (get_or l i a))) (map f l) (length-build n _ ∙ sym (length-map l))
      (λ i h.
      let k : i < n = omega (arith, length-build n (λ i. f (get_or l i a))) in
      get_or-build b n i _ k ∙ sym (get_or-map a b l i k))
