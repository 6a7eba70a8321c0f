-- A sheet has as many lines as `lines_of` says. Assumes nothing.
use Rattle.std.proofs.Common.{Err, Ok, ℕ, suc, ◌+◌, ◌*◌, Bool, true, false, cond, ◌&&◌, List, [], ◌≡◌, refl, leb, length, arith}
use Rattle.lists.specs.Build.{build}
use Rattle.lists.proofs.Filling.{length-build}
use Rattle.outcome.specs.Outcome.{Answered}
use Rattle.outcome.specs.declared.Answer.{Answer}
use Rattle.outcome.specs.declared.Answer.TheVariants.{Density, Projected, Process, Physical, Fit, Model, Diagnostics, Probes, Setting, Applied, Choi, Probabilities}
use Rattle.printing.specs.Lines.{word_lines, entry_lines, answer_line_count, lines_of}
use Rattle.printing.specs.Text.{word_line, entry_line, words_shown, entries_shown, answer_lines, sheet_lines}

-- below a header n lines where b holds
below : (b : Bool) (n : ℕ) (line : ℕ → List ℕ) → cond b (1 + n) 1 ≡ suc (length (cond b (build n line) []))
below true n line = omega (arith, length-build n line)
below false n line = refl

words_count : (count : ℕ) (words : List ℕ) → word_lines count (length words) ≡ suc (length (words_shown count words))
words_count count words = below (leb count (length words)) count (word_line words)

entries_count : (d : ℕ) (words : List ℕ) → entry_lines d (length words) ≡ suc (length (entries_shown d words))
entries_count d words = below (leb d 64 && leb (2 * (d * d)) (length words)) (d * d) (entry_line words)

-- the same below another test
within : (b : Bool) (count : ℕ) (words : List ℕ) → cond b (word_lines count (length words)) 1 ≡ suc (length (cond b (words_shown count words) []))
within true count words = words_count count words
within false count words = refl

pub answer_count : (a : Answer) (words : List ℕ) → answer_line_count a (length words) ≡ length (answer_lines a words)
answer_count (Density d) words = entries_count d words
answer_count (Projected d) words = entries_count d words
answer_count (Process p) words = within (leb p 64) (p * p) words
answer_count (Physical t u c) words = refl
answer_count (Fit r s e v m) words = within (leb m 4096) (6 + m) words
answer_count (Model m) words = words_count m words
answer_count Diagnostics words = words_count 2 words
answer_count (Probes p) words = within (leb p 64) (p * p) words
answer_count (Setting n) words = words_count n words
answer_count (Applied p) words = words_count p words
answer_count (Choi d) words = entries_count d words
answer_count (Probabilities c) words = words_count c words

pub sheet_count : (a : Answered) (words : List ℕ) → lines_of a (length words) ≡ length (sheet_lines a words)
sheet_count (Ok a) words = answer_count a words
sheet_count (Err r) words = refl
