use mathlib.Core.Path.{sym, ◌∙◌, ap, subst}
use Prim.Native.Nat.{◌<◌}
use Rattle.magnitudes.specs.declared.Pivot.{Pivot}
use Rattle.magnitudes.specs.Kept.{row_found}
use Rattle.magnitudes.specs.Pivot.{IsPivot}
use Rattle.magnitudes.proofs.Finding.{found-is, pivot-law}
use Rattle.magnitudes.proofs.Keeping.{column-within}
use Rattle.magnitudes.proofs.Magnitudes.pivot.Goals as goal

pub row-requires : goal.row-requires
row-requires c =
    (c.requires.1, subst (λ (g : Pivot). g.p < c.args.n) (sym c.column.ensures) (column-within c.args.n c.args.self.now.cells c.requires.0))

pub returns-clause-pivot : goal.returns-clause-pivot
returns-clause-pivot c a k =
    c.row.ensures
    ∙ ap (λ (g : Pivot). row_found c.args.n c.args.self.now.cells g.p) c.column.ensures
    ∙ found-is c.args.n a c.args.self.now.cells k c.requires.0

pub returns-clause-largest : goal.returns-clause-largest
returns-clause-largest c a k =
    subst (IsPivot c.args.n a)
    (sym
    (c.row.ensures
    ∙ ap (λ (g : Pivot). row_found c.args.n c.args.self.now.cells g.p) c.column.ensures
    ∙ found-is c.args.n a c.args.self.now.cells k c.requires.0))
    (pivot-law c.args.n a c.args.self.now.cells k)
