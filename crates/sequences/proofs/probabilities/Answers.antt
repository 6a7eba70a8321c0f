use Rattle.std.proofs.Common.{List, ◌++◌, drop, ap, ◌∙◌, arith, rules}
use lib.Ieee.{Float}
use Rattle.sequences.proofs.Sequences.{products, gates-lie, by-columns}
use Rattle.sequences.proofs.probabilities.Goals as goal

pub gates_by_columns-requires : goal.gates_by_columns-requires
gates_by_columns-requires c = (search rules, search rules, search rules, search rules, omega (arith, (products _ _ _ c.requires.0).2))

pub probabilities-requires : goal.probabilities-requires
probabilities-requires c =
    (search rules, search rules, search rules, search rules, gates-lie _ _ _ c.indices-room.ensures.1 c.requires.3 c.args.d _ (omega (arith, (products _ _ _ c.requires.0).2)))

pub returns : goal.returns
returns c =
    let a = c.args in
    let columns = c.gates_by_columns.ensures in
    (c.probabilities.ensures ∙ ap (λ (l : List Float). l ++ drop a.effects a.out.now) (by-columns _ _ _ c.indices-room.ensures.1 c.requires.3 _ _ _ _ _ columns), columns)
