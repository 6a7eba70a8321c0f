-- How many lines a sheet has (document 01): its header, and one for each number or matrix entry.
use Rattle.std.specs.Prelude.{Err, Ok, ℕ, ◌+◌, ◌*◌, cond, ◌&&◌, leb}
use Rattle.outcome.specs.declared.Answer.{Answer}
use Rattle.outcome.specs.Outcome.{Answered}
use Rattle.outcome.specs.declared.Answer.TheVariants.{Density, Projected, Process, Physical, Fit, Model, Diagnostics, Probes, Setting, Applied, Choi, Probabilities}

-- of a result of so many words: what it cannot hold is not shown
abbrev pub word_lines : ℕ → ℕ → ℕ
word_lines count words = cond (leb count words) (1 + count) 1

-- a matrix of p rows, a line for each word
abbrev pub square_lines : ℕ → ℕ → ℕ
square_lines p words = cond (leb p 64) (word_lines (p * p) words) 1

-- one of d rows, a line for each entry's two words
abbrev pub entry_lines : ℕ → ℕ → ℕ
entry_lines d words = cond (leb d 64 && leb (2 * (d * d)) words) (1 + d * d) 1

-- a fit: its six numbers, and its model's words
abbrev pub fit_lines : ℕ → ℕ → ℕ
fit_lines model words = cond (leb model 4096) (word_lines (6 + model) words) 1

abbrev pub answer_line_count : Answer → ℕ → ℕ
answer_line_count (Density d) words = entry_lines d words
answer_line_count (Projected d) words = entry_lines d words
answer_line_count (Process p) words = square_lines p words
answer_line_count (Physical t u c) words = 1
answer_line_count (Fit r s e v w) words = fit_lines w words
answer_line_count (Model w) words = word_lines w words
answer_line_count Diagnostics words = word_lines 2 words
answer_line_count (Probes p) words = square_lines p words
answer_line_count (Setting n) words = word_lines n words
answer_line_count (Applied p) words = word_lines p words
answer_line_count (Choi d) words = entry_lines d words
answer_line_count (Probabilities c) words = word_lines c words

-- of a call
abbrev pub lines_of : Answered → ℕ → ℕ
lines_of (Ok a) words = answer_line_count a words
lines_of (Err r) words = 1
