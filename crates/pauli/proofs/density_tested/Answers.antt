use Prim.Native.Nat.{ℕ, ◌^◌}
use mathlib.Core.Path.{ap, ◌∙◌}
use Rattle.lists.proofs.Parts.{front-over}
use Rattle.pauli.specs.Density.{density_of}
use Rattle.pauli.proofs.Sums.{length-density, tested}
use Rattle.pauli.proofs.density_tested.Goals as goal

pub returns : goal.returns
returns c =
    let s = c.of-sizes in
    let e = c.density.ensures ∙ ap (λ (n : ℕ). density_of n c.args.es.now) s.ensures in
    (tested _ _ _ _ e c.finite_or.ensures, front-over _ _ _ _ e (length-density _ _ _ (s.result.side ∙ ap (λ (n : ℕ). 2 ^ n) s.ensures)))
