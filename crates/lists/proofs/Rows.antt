-- Loops that fill a matrix row by row. Assumes nothing.
use mathlib.Core.Path.{◌≡◌}
use mathlib.Core.List.{List, ◌++◌, append_assoc, append-nil}
use Prim.Native.Nat.{ℕ, zero, suc, ◌+◌, ◌-◌, ◌*◌}
use native.Mathlib.Nat.{add-zero, add-suc, suc-mul, zero-mul}
use native.Mathlib.Numerals.{add-one}
use native.Mathlib.Omega.{arith}
use lib.ListN.{take, drop}
use lib.Seq.{take_at, drop_at, drop-drop}
use Rattle.lists.specs.Build.{build}
use Rattle.lists.proofs.Filling.{Filled, length-build, build-none, build-suc, fill_none}

module _ {A : Type 0} where
  -- a built list in two parts
  pub build-append : (m n : ℕ) (f : ℕ → A) → build (m + n) f ≡ build m f ++ build n (λ j. f (m + j))
  build-append m zero f = rw (add-zero, build-none, append-nil)
  build-append m (suc n) f =
      rw (add-suc, ← add-one (m + n), build-suc, build-append m n f, append_assoc, ← add-one n, build-suc)

  pub rows_none : (f : ℕ → A) (n : ℕ) (d : List A) → Filled f d (0 * n) d
  rows_none f n d = rw zero-mul (fill_none f d)

  -- row i was lent, and came back as ys
  pub rows_more : (f : ℕ → A) (d : List A) (i n e : ℕ) (out ys : List A) → e ≡ i * n + n → Filled f d (i * n) out → ys ≡ build n (λ j. f (i * n + j))
      → Filled f d ((i + 1) * n) (take (i * n) out ++ (ys ++ drop (e - i * n) (drop (i * n) out)))
  rows_more f d i n e out ys h o y =
      let k : e - i * n ≡ n = omega arith in
      let q : (i + 1) * n ≡ i * n + n = rw (add-one, suc-mul) in
      rw (k, y, q, build-append, o, take_at (build (i * n) f) (drop (i * n) d) (i * n) (length-build (i * n) f), drop_at (build (i * n) f) (drop (i * n) d) (i * n) (length-build (i * n) f), drop-drop, append_assoc)
