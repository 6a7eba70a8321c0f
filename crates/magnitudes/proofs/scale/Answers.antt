use mathlib.Core.Path.{ap, ◌∙◌}
use mathlib.Core.List.{List, []}
use native.Mathlib.Omega.{arith}
use Prim.Native.Nat.{◌/◌}
use Rattle.numbers.specs.Number.{max}
use Rattle.complex.specs.declared.Complex.{Complex}
use Rattle.complex.specs.Arithmetic.{magnitude}
use lib.ListN.{length, get_or}
use lib.Ieee.{Float, nan}
use Rattle.lists.proofs.Folding.{fold_more, fold_end}
use Rattle.entries.proofs.Pairs.{of-chunk}
use Rattle.magnitudes.specs.Pivot.{scale_of, scale_by, smallest_normal}
use Rattle.magnitudes.proofs.scale.Goals as goal

pub loop-re-preserved : goal.loop-re-preserved
loop-re-preserved c =
    let l = c.args.a.now in
    let k = c.loop-re.re-index in
    let chunks = ap (λ (q : List (List Float)). max c.loop-re.s (magnitude (record { re = get_or (get_or q k []) 0 nan; im = get_or (get_or q k []) 1 nan }))) c.as_chunks.ensures.front in
    let entry = of-chunk (length l / 2) l k (omega (arith, c.as_chunks.ensures.front_len)) (omega arith) in
    fold_more _ _ _ _ _ c.loop-re.invariant
    (c.max_of-s.ensures ∙ ap (max c.loop-re.s) c.magnitude.ensures ∙ chunks ∙ ap (λ (z : Complex). max c.loop-re.s (magnitude z)) entry)

pub returns : goal.returns
unfolding scale_of scale_by
returns c =
    c.max_of.ensures ∙ ap (λ (s : Float). max s smallest_normal) (fold_end _ _ _ _ _ (omega (arith, c.as_chunks.ensures.front_len, c.requires)) c.loop-re.invariant)
