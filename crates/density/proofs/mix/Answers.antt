use Prim.Native.Nat.{◌*◌}
use mathlib.Core.Path.{◌∙◌, ap}
use native.Mathlib.Omega.{arith}
use Rattle.lists.proofs.Chains.{build-replicate}
use Rattle.entries.specs.Entries.{entries}
use Rattle.density.proofs.Mixing.{zeros, mixed-whole}
use Rattle.density.proofs.mix.Goals as goal

pub returns : goal.returns
returns c =
    mixed-whole c.args.n (entries c.args.v.now) c.args.p.now _ _ _ (omega arith) (ap entries (c.fill.ensures.after (λ y e. e) ∙ build-replicate _ _) ∙ zeros (c.args.n * c.args.n) c.args.out.now c.requires.2) c.loop-k.invariant
