use mathlib.Core.Bool.{true, ◌&&◌}
use mathlib.Core.Path.{◌≡◌, ◌∙◌}
use lib.Ieee.{le, nan}
use borrow.Author.Rules.{rules}
use Rattle.std.specs.List.{fold}
use Rattle.std.proofs.lemmas.Grind.{common_steps}
use Rattle.lists.proofs.Chains.{fold-list}
use Rattle.positivity.specs.Positivity.{none_below}
use Rattle.positivity.proofs.none_below.Goals as goal

pub returns : goal.returns
unfolding none_below
returns c =
    let b = c.args.bound in
    let w = c.args.w.now in
    let e : c.fold.result ≡ fold (λ m x. m && le b x) true w = search (rules, common_steps) in
    e ∙ fold-list (λ m x. m && le b x) true nan w
