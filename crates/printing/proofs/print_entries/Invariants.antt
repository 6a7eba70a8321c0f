use Rattle.lists.specs.Build.{build}
use Rattle.printing.specs.Outputs.{Writes}
use Rattle.printing.specs.Text.{lines_text, entry_line}
use Rattle.printing.proofs.print_entries.Given as goal

abbrev pub invariant-loop-re : goal.invariant-loop-re
invariant-loop-re g l = Writes g.W.Write.contents l.initial.out l.out (lines_text (build l.re-index (entry_line l.res)))
