use Rattle.lists.specs.Build.{build}
use Rattle.printing.specs.Outputs.{Writes}
use Rattle.printing.specs.Text.{lines_text, word_line}
use Rattle.printing.proofs.print_words.Given as goal

abbrev pub invariant-loop-w : goal.invariant-loop-w
invariant-loop-w g l = Writes g.W.Write.contents l.initial.out l.out (lines_text (build l.w-index (word_line l.res)))
