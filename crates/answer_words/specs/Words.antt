-- An answer in words: what document 01 prints as a header line or a refusal.
use Rattle.std.specs.Prelude.{Err, Ok, ℕ, List, [], ◌∷◌}
use Rattle.refusal.specs.Values.{code_of, value_a, value_b}
use Rattle.refusal.specs.declared.Refusal.{Refusal}
use Rattle.card.specs.Reading.{Reading}
use Rattle.outcome.specs.declared.Answer.{Answer}
use Rattle.outcome.specs.declared.Answer.TheVariants as answer
use Rattle.outcome.specs.Outcome.{Answered, bit_of}

-- five words: the number of what is told, and the numbers of its header; or 0 and a refusal's N, A and B; zero where there is none
abbrev pub header_words : ℕ → ℕ → ℕ → ℕ → ℕ → List ℕ
header_words kind a b c d = kind ∷ a ∷ b ∷ c ∷ d ∷ []

abbrev pub refusal_words : Refusal → List ℕ
refusal_words r = 0 ∷ code_of r ∷ value_a r ∷ value_b r ∷ 0 ∷ []

-- a sheet has the number of its card's kind; the library's entries come after the seven kinds
abbrev pub told_words : Answer → List ℕ
told_words (answer.Density d) = header_words 1 d 0 0 0
told_words (answer.Projected d) = header_words 2 d 0 0 0
told_words (answer.Process p) = header_words 3 p 0 0 0
told_words (answer.Physical t u c) = header_words 4 (bit_of t) (bit_of u) (bit_of c) 0
told_words (answer.Fit r s e v w) = header_words 5 r s e (bit_of v)
told_words (answer.Model w) = header_words 6 w 0 0 0
told_words answer.Diagnostics = header_words 7 0 0 0 0
told_words (answer.Probes c) = header_words 8 c 0 0 0
told_words (answer.Setting n) = header_words 9 n 0 0 0
told_words (answer.Applied p) = header_words 10 p 0 0 0
told_words (answer.Choi d) = header_words 11 d 0 0 0
told_words (answer.Probabilities c) = header_words 12 c 0 0 0

-- of a call
abbrev pub answer_words : Answered → List ℕ
answer_words (Ok a) = told_words a
answer_words (Err r) = refusal_words r

-- what is returned: N for a refusal, 0 for all else
abbrev pub answer_code : Answered → ℕ
answer_code (Ok a) = 0
answer_code (Err r) = code_of r

abbrev pub reading_words : Reading → List ℕ
reading_words (Ok h) = header_words h.kind 0 0 0 0
reading_words (Err r) = refusal_words r

abbrev pub reading_code : Reading → ℕ
reading_code (Ok h) = 0
reading_code (Err r) = code_of r
