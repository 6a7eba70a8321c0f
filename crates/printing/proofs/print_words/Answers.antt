use Rattle.std.proofs.Common.{◌≡◌, ◌<◌, rules, arith}
use Rattle.std.proofs.lemmas.List.{get_or-take, length-take-le}
use Rattle.printing.proofs.Writing.{writes_no_line, writes_one_more}
use Rattle.printing.specs.Text.{word_line}
use Rattle.printing.proofs.print_words.Goals as goal

pub loop-w-init : goal.loop-w-init
loop-w-init g c = writes_no_line _ _

pub loop-w-preserved : goal.loop-w-preserved
loop-w-preserved g c =
    let count = length-take-le c.args.count c.args.res.now c.requires in
    let h : c.loop-w.w-index < c.args.count = omega (arith, count) in
    writes_one_more c.loop-w.w-index (word_line c.args.res.now) c.loop-w.invariant (rw (← get_or-take c.args.count c.args.res.now c.loop-w.w-index 0 h) (search rules))

pub returns : goal.returns
returns g c =
    let e : c.args.count ≡ c.loop-w.w-index = omega (arith, length-take-le c.args.count c.args.res.now c.requires) in
    rw e c.loop-w.invariant
