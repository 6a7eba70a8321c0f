use borrow.Author.Rules.{rules}
use Rattle.gauge.proofs.Gauges.{not_finite, none-computed, given, computed}
use Rattle.inversion.specs.Inversion.{invertible, inverse_of}
use Rattle.lists.specs.Build.{over}
use lib.Ieee.{Float}
use mathlib.Core.List.{List}
use mathlib.Core.Path.{sym, ap, ◌∙◌}
use Rattle.gauge.proofs.invert_transform.Goals as goal

pub returns-then-not-all_finite : goal.returns-then-not-all_finite
returns-then-not-all_finite c =
    let f = sym c.all_finite.ensures ∙ c.if-not-all_finite.true in
    (not_finite _ _ f, ap (λ (x : List Float). over x c.args.inverse.now) (none-computed c.args.d _ f))

pub returns : goal.returns
returns c =
    let a = c.args in
    let t = a.transform.now in
    let f = sym c.all_finite.ensures ∙ c.if-not-all_finite.false in
    let i = c.invert.ensures.1 ∙ ap (λ (x : Float). over (inverse_of a.d x t) a.inverse.now) c.threshold.ensures ∙ ap (λ (x : List Float). over x a.inverse.now) (computed a.d t f) in
    let k = c.map_err.ensures.cases in
    let v = c.invert.ensures.0 ∙ ap (λ (x : Float). invertible a.d x t) c.threshold.ensures in
    (given _ _ f _ _ v k (λ e r h. search (rules, h)), i)
