-- The outcome, step by step. Assumes nothing.
use Rattle.std.proofs.Common.{Err, Ok}
use Rattle.refusal.specs.Verdicts.{good, Verdict, first_of, finite_or, tolerance_of}
use mathlib.Core.Path.{◌≡◌, refl, sym, ◌∙◌, ap}
use mathlib.Core.Bool.{Bool, true, false}
use mathlib.Core.List.{List, ◌++◌}
use Prim.Native.Nat.{ℕ, ◌*◌}
use lib.ListN.{length, drop}
use lib.Ieee.{Float}
use Rattle.lists.specs.Build.{over}
use Rattle.lists.proofs.Parts.{over-front}
use Rattle.complex.specs.declared.Complex.{Complex}
use Rattle.entries.specs.Entries.{entries, parts_of}
use Rattle.entries.proofs.Pairs.{parts_are, length-parts}
use Rattle.entries.proofs.Matrices.{length-matrix}
use Rattle.eigen.specs.Jacobi.{Spectrum, spectrum, unknown, eig_of, told}
use Rattle.filling.specs.Filling.{filling}
use Rattle.refusal.specs.declared.Refusal.{Refusal}
use Rattle.refusal.specs.declared.Refusal.TheVariants.{NonFinite, Operator, EigensolverDidNotConverge}
use Rattle.refusal.proofs.Verdicts.{never-good, finite-held, finite-refused, tolerance-last}
use Rattle.density.specs.Projection.{halved, mixed_at, mixed, spectral_numbers, spectral_verdict, admission, spectrum_of, projected_verdict, where_good, projected_numbers}

-- what is said of a spectrum, and the numbers that are left
abbrev pub Told : ℕ → Spectrum → Verdict → List Float → Type 0
Told n s f r = (f ≡ spectral_verdict n s) × (where_good f r ≡ where_good f (spectral_numbers n s))

module _ (n : ℕ) (tolerance : Float) (rotations : ℕ) (e : List Float) (h v : List Complex) (w : List Float) {b : Bool} (half : h ≡ halved n (entries e)) (eig : told b w v ≡ eig_of n tolerance rotations h) where
  pub used-up : (r : List Float) → b ≡ false → Told n (spectrum_of n tolerance rotations e) (Err EigensolverDidNotConverge) r
  unfolding told spectral_verdict
  used-up r a = (ap (spectral_verdict n) (ap (λ (b : Bool). told b w v) (sym a) ∙ eig ∙ ap (eig_of n tolerance rotations) half), refl)

  pub found : (p r : List Float) (f : Verdict) → b ≡ true → p ≡ filling w → entries r ≡ mixed n v p → length r ≡ 2 * (n * n) → f ≡ finite_or Operator r → Told n (spectrum_of n tolerance rotations e) f r
  unfolding told spectral_verdict spectral_numbers
  found p r f a q m l g =
      let s : spectrum w v ≡ spectrum_of n tolerance rotations e = ap (λ (b : Bool). told b w v) (sym a) ∙ eig ∙ ap (eig_of n tolerance rotations) half in
      let x : r ≡ parts_of (mixed n v (filling w)) = parts_are (n * n) r (mixed n v (filling w)) l (m ∙ ap (mixed n v) q) in
      (g ∙ ap (finite_or Operator) x ∙ ap (spectral_verdict n) s, ap (where_good f) (x ∙ ap (spectral_numbers n) s))

-- good numbers r, copied
pub written : (n : ℕ) (s : Spectrum) {f : Verdict} (m : ℕ) (r out x : List Float) → f ≡ good → Told n s f r → length r ≡ m → x ≡ r ++ drop m out
    → (good ≡ spectral_verdict n s) × (x ≡ over (where_good good (spectral_numbers n s)) out)
written n s m r out x g t l e =
    let q : r ≡ spectral_numbers n s = rw g at t.1 in
    (sym g ∙ t.0, over-front (spectral_numbers n s) out (ap length (sym q) ∙ l) (e ∙ ap (λ (z : List Float). z ++ drop m out) q))

-- ---- the tests before it

module _ (t : Float) (e : List Float) where
  pub not_finite : (r : Refusal) → Err r ≡ finite_or NonFinite e → Err r ≡ admission t e
  unfolding admission
  not_finite r h = let q = finite-refused NonFinite r e h in rw (q.0, q.1) refl

  pub by_tolerance : (w : Verdict) → good ≡ finite_or NonFinite e → w ≡ tolerance_of t → w ≡ admission t e
  unfolding admission
  by_tolerance w h p = rw (finite-held NonFinite e h) (p ∙ tolerance-last t)

module _ (n : ℕ) (tolerance : Float) (rotations : ℕ) (e : List Float) {a : Verdict} (adm : a ≡ admission tolerance e) where
  pub not-admitted : (x : Refusal) (out : List Float) → a ≡ Err x → (Err x ≡ projected_verdict n tolerance rotations e) × (out ≡ over (projected_numbers n tolerance rotations e) out)
  unfolding projected_verdict projected_numbers
  not-admitted x out h =
      let v : Err x ≡ admission tolerance e = sym h ∙ adm in
      let s = spectrum_of n tolerance rotations e in
      (ap (λ (a : Verdict). first_of a (spectral_verdict n s)) v, ap (λ (a : Verdict). over (where_good (first_of a (spectral_verdict n s)) (spectral_numbers n s)) out) v)

  pub admitted : (f : Verdict) (out x : List Float) → a ≡ good → f ≡ spectral_verdict n (spectrum_of n tolerance rotations e) → x ≡ over (where_good f (spectral_numbers n (spectrum_of n tolerance rotations e))) out
      → (f ≡ projected_verdict n tolerance rotations e) × (x ≡ over (projected_numbers n tolerance rotations e) out)
  unfolding projected_verdict projected_numbers
  admitted f out x h g o =
      let s = spectrum_of n tolerance rotations e in
      let v : f ≡ first_of (admission tolerance e) (spectral_verdict n s) = g ∙ ap (λ (a : Verdict). first_of a (spectral_verdict n s)) (sym h ∙ adm) in
      (v, o ∙ ap (λ (f : Verdict). over (where_good f (spectral_numbers n s)) out) v)

-- a density matrix is whole
pub length-projected : (n : ℕ) (tolerance : Float) (rotations : ℕ) (e : List Float) → good ≡ projected_verdict n tolerance rotations e → length (projected_numbers n tolerance rotations e) ≡ 2 * (n * n)
unfolding projected_verdict projected_numbers spectral_verdict spectral_numbers mixed
length-projected n tolerance rotations e = go (admission tolerance e) (spectrum_of n tolerance rotations e)
  where
    go : (a : Verdict) (s : Spectrum) → good ≡ first_of a (spectral_verdict n s) → length (where_good (first_of a (spectral_verdict n s)) (spectral_numbers n s)) ≡ 2 * (n * n)
    go (Err x) s g = absurd (never-good g)
    go (Ok _) unknown g = absurd (never-good g)
    go (Ok _) (spectrum w v) g = rw (← g) (length-parts (mixed n v (filling w)) ∙ ap (λ (m : ℕ). 2 * m) (length-matrix n n (mixed_at n v (filling w))))
