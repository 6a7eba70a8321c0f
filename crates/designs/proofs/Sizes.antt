-- 4^n probes of 4^n numbers: at least one, and at most 4,096 numbers in all. Assumes nothing.
use Prim.Native.Nat.{ℕ, ◌*◌, ◌^◌, ◌≤◌, ◌<◌}
use mathlib.Core.Path.{◌≡◌, ap, ◌∙◌}
use mathlib.Core.List.{List, ◌++◌}
use native.Mathlib.Nat.{one-le-pow, zero-lt-suc, mul-le-mul}
use native.Mathlib.Omega.{arith}
use lib.ListN.{length, take, drop}
use lib.Seq.{length-take-le}
use Rattle.lists.specs.Build.{build}
use Rattle.lists.proofs.Filling.{length-build}
use Rattle.designs.specs.Probes.{probes_of}
use Rattle.designs.specs.Settings.{setting_of}

pub record Square (n count : ℕ) : Type 0 where
  pub some : 0 < count
  pub all : count * count ≡ 4 ^ n * 4 ^ n
  pub most : count * count ≤ 4096

pub square : {n count : ℕ} → count ≡ 4 ^ n → count ≤ 64 → Square n count
square {n} {count} e h = record { some = omega (arith, one-le-pow n 4 (zero-lt-suc 3)); all = rw e; most = mul-le-mul h h }

pub length-probes : (n : ℕ) → length (probes_of n) ≡ 4 ^ n * 4 ^ n
unfolding probes_of
length-probes n = length-build (4 ^ n * 4 ^ n) _

pub length-setting : (n index : ℕ) → length (setting_of n index) ≡ n
unfolding setting_of
length-setting n index = length-build n _

-- a list whose front was built
pub front-built : {A : Type 0} (f : ℕ → A) (n : ℕ) (l out : List A) → n ≤ length out → l ≡ build (length (take n out)) f → l ++ drop n out ≡ build n f ++ drop n out
front-built f n l out h e = ap (λ l. l ++ drop n out) (e ∙ ap (λ (k : ℕ). build k f) (length-take-le n out h))
