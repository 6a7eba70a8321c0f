use mathlib.Core.Bool.{true, ◌&&◌}
use mathlib.Core.Path.{◌≡◌, ◌∙◌}
use Rattle.std.specs.List.{fold}
use Rattle.std.proofs.Common.{rules}
use Rattle.std.proofs.lemmas.Grind.{common_steps}
use Rattle.numbers.specs.Number.{finite}
use Rattle.numbers.proofs.Finite.{all-chained}
use Rattle.numbers.proofs.all_finite.Goals as goal

pub returns : goal.returns
returns c =
    let e : c.fold.result ≡ fold (λ b x. b && finite x) true c.args.xs.now = search (rules, common_steps) in
    e ∙ all-chained true c.args.xs.now
