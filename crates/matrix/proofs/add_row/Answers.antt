use mathlib.Core.Path.{refl}
use native.Mathlib.Omega.{arith}
use lib.Ieee.{nan}
use Rattle.lists.proofs.Filling.{fill_none, map_more}
use Rattle.numbers.specs.Number.{◌+ᶠ◌, ◌*ᶠ◌}
use Rattle.numbers.specs.Slice.{at}
use Rattle.matrix.proofs.add_row.Goals as goal

pub loop-j-init : goal.loop-j-init
loop-j-init c = fill_none _ _

pub loop-j-preserved : goal.loop-j-preserved
loop-j-preserved c =
    let a = c.args in
    map_more nan (λ j x. x +ᶠ a.f *ᶠ at a.other.now j) a.row.now _ _ _ (omega arith) c.loop-j.invariant refl
