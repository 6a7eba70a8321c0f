-- The lines of a sheet: its header, and below it the words or entries that the result holds, as far as it holds them.
use Rattle.std.specs.Prelude.{Err, Ok, ℕ, Bool, ◌+◌, ◌-◌, ◌*◌, List, [], ◌∷◌, ◌++◌, false, cond, ◌&&◌, leb, length, get_or, replicate, codes}
use Rattle.std.specs.List.{flat_map}
use Rattle.std.specs.Fmt.{decimal, digits}
use Rattle.lists.specs.Build.{build}
use Rattle.refusal.specs.declared.Refusal.{Refusal}
use Rattle.refusal.specs.Values.{code_of, value_a, value_b}
use Rattle.outcome.specs.declared.Answer.{Answer}
use Rattle.outcome.specs.declared.Answer.TheVariants.{Density, Projected, Process, Physical, Fit, Model, Diagnostics, Probes, Setting, Applied, Choi, Probabilities}
use Rattle.outcome.specs.Outcome.{Answered, bit_of}
use Rattle.card.specs.Reading.{Reading}

-- lines, each with its end
abbrev pub lines_text : List (List ℕ) → List ℕ
lines_text lines = flat_map (λ line. line ++ 10 ∷ []) lines

-- a word: 16 digits to the base 16
abbrev pub word_text : ℕ → List ℕ
word_text w = let ds = digits 16 false w in replicate (16 - length ds) 48 ++ ds

abbrev pub header_line : List ℕ → ℕ → List ℕ
header_line name n = name ++ 32 ∷ decimal n

abbrev pub refusal_line : Refusal → List ℕ
refusal_line r = codes "refused " ++ decimal (code_of r) ++ 32 ∷ word_text (value_a r) ++ 32 ∷ word_text (value_b r)

abbrev pub tests_line : Bool → Bool → Bool → List ℕ
tests_line t u c = codes "physical " ++ decimal (bit_of t) ++ 32 ∷ decimal (bit_of u) ++ 32 ∷ decimal (bit_of c)

abbrev pub fit_line : ℕ → ℕ → ℕ → Bool → List ℕ
fit_line stop steps evaluations converged = codes "fit " ++ decimal stop ++ 32 ∷ decimal steps ++ 32 ∷ decimal evaluations ++ 32 ∷ decimal (bit_of converged)

-- entry i of a matrix: its real and its imaginary part
abbrev pub entry_line : List ℕ → ℕ → List ℕ
entry_line words i = word_text (get_or words (2 * i) 0) ++ 32 ∷ word_text (get_or words (2 * i + 1) 0)

-- word i, alone
abbrev pub word_line : List ℕ → ℕ → List ℕ
word_line words i = word_text (get_or words i 0)

-- so many words
abbrev pub words_shown : ℕ → List ℕ → List (List ℕ)
words_shown count words = cond (leb count (length words)) (build count (word_line words)) []

-- a matrix of p rows, a line for each word
abbrev pub square_shown : ℕ → List ℕ → List (List ℕ)
square_shown p words = cond (leb p 64) (words_shown (p * p) words) []

-- one of d rows, a line for each entry's two words
abbrev pub entries_shown : ℕ → List ℕ → List (List ℕ)
entries_shown d words = cond (leb d 64 && leb (2 * (d * d)) (length words)) (build (d * d) (entry_line words)) []

-- a fit: its six numbers, and its model's words
abbrev pub fit_shown : ℕ → List ℕ → List (List ℕ)
fit_shown model words = cond (leb model 4096) (words_shown (6 + model) words) []

abbrev pub answer_lines : Answer → List ℕ → List (List ℕ)
answer_lines (Density d) words = header_line (codes "density") d ∷ entries_shown d words
answer_lines (Projected d) words = header_line (codes "projected") d ∷ entries_shown d words
answer_lines (Process p) words = header_line (codes "process") p ∷ square_shown p words
answer_lines (Physical t u c) words = tests_line t u c ∷ []
answer_lines (Fit r s e v m) words = fit_line r s e v ∷ fit_shown m words
answer_lines (Model m) words = header_line (codes "model") m ∷ words_shown m words
answer_lines Diagnostics words = codes "diagnostics" ∷ words_shown 2 words
answer_lines (Probes p) words = header_line (codes "probes") p ∷ square_shown p words
answer_lines (Setting n) words = header_line (codes "setting") n ∷ words_shown n words
answer_lines (Applied p) words = header_line (codes "applied") p ∷ words_shown p words
answer_lines (Choi d) words = header_line (codes "choi") d ∷ entries_shown d words
answer_lines (Probabilities c) words = header_line (codes "probabilities") c ∷ words_shown c words

-- of a call
abbrev pub sheet_lines : Answered → List ℕ → List (List ℕ)
sheet_lines (Ok a) words = answer_lines a words
sheet_lines (Err r) words = refusal_line r ∷ []

abbrev pub reading_lines : Reading → List (List ℕ)
reading_lines (Ok h) = header_line (codes "read") h.kind ∷ []
reading_lines (Err r) = refusal_line r ∷ []
