-- The words of a fit's sheet, written in two parts. Assumes nothing.
use Prim.Native.Nat.{ℕ, ◌-◌}
use mathlib.Core.Path.{◌≡◌}
use mathlib.Core.List.{List, ◌++◌}
use lib.ListN.{length, take, drop}
use Rattle.lists.specs.Build.{over}
use Rattle.lists.proofs.Joined.{over-onto}
use Rattle.lists.proofs.Parts.{over-front}
use Rattle.numbers.specs.Slice.{words_of}
use Rattle.numbers.proofs.Slices.{length-words}
use Rattle.card_layout.specs.declared.Header.{Header}
use Rattle.model_words.specs.Words.{model_words_of}
use Rattle.descent.specs.Fit.{Fitted}
use Rattle.fit_sheets.specs.Sheets.{fit_numbers, fit_words}

-- six words were written, the rest was lent, and the model's words were written behind them
pub fit_written : (s : List ℕ) (h : Header) (f : Fitted) (l out ys : List ℕ) (e : ℕ) → out ≡ words_of 6 (fit_numbers f.initial f.final f.objective f.norm) ++ drop 6 l → e ≡ length out
    → ys ≡ over (model_words_of s h f.model) (take (e - 6) (drop 6 out)) → take 6 out ++ (ys ++ drop (e - 6) (drop 6 out)) ≡ over (fit_words s h f) l
unfolding fit_words
fit_written s h f l out ys e o q y =
    let six = fit_numbers f.initial f.final f.objective f.norm in
    over-onto (words_of 6 six) (model_words_of s h f.model) l 6 e out ys (length-words 6 six) q (over-front (words_of 6 six) l (length-words 6 six) o) y
