use mathlib.Core.Bool.{Bool, true, false, cond}
use mathlib.Core.Path.{◌≡◌, refl}
use native.Mathlib.Omega.{arith}
use lib.Lanes.{top}
use lib.Ieee.{lt, le, eq}
use Rattle.std.proofs.lemmas.List.{length-replicate}
use Rattle.complex.proofs.Lanes.{lanes-are}
use Rattle.complex.proofs.Lengths.{each-alone, side-by-side, choice}
use Rattle.complex.proofs.magnitudes_of.Goals as goal

tops : (b : Bool) → top 63 (cond b 0xffff_ffff_ffff_ffff 0) ≡ b
tops true = refl
tops false = refl

pub roots-requires : goal.roots-requires
roots-requires g c = (
  omega (arith, c.requires.2),
  (search (side-by-side, each-alone, choice, length-replicate, c.requires.0, c.requires.1) depth 14, c.requires.2),
)

pub returns : goal.returns
returns g c = lanes-are _ _ _ (λ x y. tops (lt x y)) (λ x y. tops (eq x y)) (λ x y. tops (le x y)) g.row.N c.args.re c.args.im c.roots.result c.requires.0 c.requires.1 c.roots.ensures
