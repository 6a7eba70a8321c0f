use Prim.Native.Nat.{ℕ}
use mathlib.Core.Path.{◌≡◌, sym, ap, ap₂, ◌∙◌}
use mathlib.Core.List.{List, ◌++◌}
use native.Mathlib.Omega.{arith}
use lib.ListN.{length, take, drop}
use lib.Seq.{length-take-le}
use Rattle.lists.specs.Build.{build}
use Rattle.lists.proofs.Filling.{fill_none, fill_more, fill-all, over-build}
use Rattle.card_parts.specs.Parts.{coordinate_in}
use Rattle.parameters.specs.Parameters.{place_of, places_of}
use Rattle.parameters.proofs.Fields.{fields}
use borrow.Author.Rules.{rules}
use Rattle.parameters.proofs.load_places.Goals as goal

pub loop-i-init : goal.loop-i-init
loop-i-init c = fill_none _ _

pub place_of-requires : goal.place_of-requires
place_of-requires c = fields _ _ _ c.coordinate_in.ensures

pub loop-i-preserved : goal.loop-i-preserved
loop-i-preserved c = fill_more _ _ _ _ _ (omega arith) c.loop-i.invariant (c.place_of.ensures ∙ ap₂ place_of c.layout.ensures c.coordinate_in.ensures)

pub returns : goal.returns
unfolding places_of
returns c =
    let a = c.args in
    let k : length (take a.card.now.header.coordinates a.out.now) ≡ a.card.now.header.coordinates = length-take-le _ _ (search rules) in
    ap (λ (l : List ℕ). l ++ drop a.card.now.header.coordinates a.out.now)
    (fill-all _ _ _ _ (omega arith) c.loop-i.invariant ∙ ap (λ (m : ℕ). build m (λ j. place_of a.card.now.header (coordinate_in a.card.now.bytes.now a.card.now.header j))) k)
    ∙ sym (over-build _ _ _)
